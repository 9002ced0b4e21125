use Rattle.std.proofs.Common.{◌++◌, ◌<◌, ◌≤◌, sym, ap, ◌∙◌, subst}
use Rattle.std.proofs.lemmas.List.{append-nil, take_all}
use Rattle.std.specs.Map.{keys_of}
use Rattle.pg_map.proofs.Filling.{mapped_after}
use Rattle.pg_trace_records.proofs.records.add_given_ids.Goals as goal

pub loop-place-init : goal.loop-place-init
loop-place-init g c = sym (append-nil c.args.ids.now.items)

pub loop-place-preserved : goal.loop-place-preserved
loop-place-preserved g c =
    mapped_after (λ e. e.0) c.args.ids.now.items c.args.given.now c.loop-place.place
    (subst (λ n. c.loop-place.place < n) c.len-place-end.ensures c.loop-place-test.true) (c.at-id.ensures c.at-id.result) c.loop-place.invariant
    c.in_ok-push.ensures.items

pub returns : goal.returns
returns g c =
    c.loop-place.invariant
    ∙ ap (λ l. c.args.ids.now.items ++ keys_of l)
    (take_all c.loop-place.place c.args.given.now (subst (λ n. n ≤ c.loop-place.place) c.len-place-end.ensures c.loop-place-test.false))
