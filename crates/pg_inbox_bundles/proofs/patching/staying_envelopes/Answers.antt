use Rattle.std.proofs.Common.{◌<◌, not, subst, ◌≤◌, ap, ◌∙◌}
use Rattle.pg_model.specs.Superstep.{has_id}
use Rattle.pg_map.proofs.Filling.{kept_more}
use Rattle.std.proofs.lemmas.List.{take_all}
use Rattle.pg_inbox_bundles.specs.MessageEdits.{others}
use Rattle.pg_inbox_bundles.proofs.patching.staying_envelopes.Goals as goal

pub loop-place-preserved : goal.loop-place-preserved
loop-place-preserved g c = record {
  items = kept_more (λ l. not (has_id c.args.retracted.now l.0)) c.args.envelopes.now.envelopes c.loop-place.place
      (subst (λ n. c.loop-place.place < n) c.len-place-end.ensures c.loop-place-test.true) c.envelope.ensures
      c.loop-place.invariant.items c.in_ok-add_if_staying.ensures.items;
  values = c.in_ok-add_if_staying.ensures.values;
}

pub envelope-requires-after_bounds : goal.envelope-requires-after_bounds
envelope-requires-after_bounds g c κs within = subst (λ n. c.loop-place.place < n) c.len-place-end.ensures c.loop-place-test.true

pub returns-clause-items : goal.returns-clause-items
returns-clause-items g c =
    c.loop-place.invariant.items
    ∙ ap (others c.args.retracted.now)
    (take_all c.loop-place.place c.args.envelopes.now.envelopes
    (subst (λ n. n ≤ c.loop-place.place) c.len-place-end.ensures c.loop-place-test.false))

pub returns-clause-values : goal.returns-clause-values
returns-clause-values g c = c.loop-place.invariant.values
