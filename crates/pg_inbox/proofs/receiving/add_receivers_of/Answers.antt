use Rattle.std.proofs.Common.{◌==◌, ◌||◌, ◌&&◌, is_some, ap, ◌∙◌, sym}
use Rattle.std.proofs.lemmas.List.{take_all}
use Rattle.pg_map.specs.Entries.{value_at}
use Rattle.pg_model.specs.Superstep.{has_id}
use Rattle.pg_inbox.proofs.Among.{has_id-more, or_and_more, or_false}
use Rattle.pg_inbox.proofs.receiving.add_receivers_of.Goals as goal

pub loop-id-init : goal.loop-id-init
loop-id-init g c = record {
  same = c.cursor-cursor.ensures.value;
  added = λ q. sym (or_false (has_id c.args.receivers.now.items q));
}

pub loop-id-preserved : goal.loop-id-preserved
loop-id-preserved g c = record {
  same = c.add_if_receiving.ensures.same ∙ c.loop-id.invariant.same;
  added = λ q.
      let ids = c.args.ids.now in
      let i = c.loop-id.id-index in
      let id = c.id-item.result in
      let found = is_some (value_at q c.args.bundle.now) in
      c.in_ok-add_if_receiving.ensures.added q
      ∙ ap (λ b. has_id c.loop-id.receivers.items q || ((id == q) && is_some (value_at q b))) c.loop-id.invariant.same
      ∙ ap (λ b. b || ((id == q) && found)) (c.loop-id.invariant.added q)
      ∙ or_and_more (has_id c.args.receivers.now.items q) _ (id == q) found
      ∙ ap (λ b. has_id c.args.receivers.now.items q || (b && found)) (sym (has_id-more ids i id q c.loop-id-test.true c.id-item.is));
}

pub returns-clause-added : goal.returns-clause-added
returns-clause-added g c q =
    let all = take_all c.loop-id.id-index c.args.ids.now c.loop-id-test.false in
    c.loop-id.invariant.added q
    ∙ ap (λ ids. has_id c.args.receivers.now.items q || (has_id ids q && is_some (value_at q c.args.bundle.now))) all
