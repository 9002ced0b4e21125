use Rattle.std.proofs.Common.{◌++◌, refl, ap, subst, sym, ◌∙◌}
use Rattle.pg_model.specs.Superstep.{undeliverable, dropped_count, waiting_after}
use Rattle.pg_scratch.specs.Arranged.{IsArranged}
use Rattle.pg_scratch.specs.Worklist.{ListsActive}
use Rattle.pg_scratch.proofs.Arranging.{received_same}
use Rattle.pg_scratch.proofs.receiving.receive.Goals as goal

pub returns : goal.returns
returns g c =
    let combining = g.C.MessageCombiner.combining c.args.combiner.now in
    let missing = c.args.missing in
    let ids = c.args.vertex_table.ids in
    let sent = c.as_slice.result.now in
    let arranged = subst (λ l. IsArranged l sent) c.into_vec.ensures
    (subst (λ l. IsArranged c.into_vec.result.items l) (sym c.as_slice.ensures.value) c.in_ok-sent.ensures) in
    let undeliverables = c.in_ok-deliver.ensures.undeliverables ∙ ap (λ l. l ++ undeliverable ids sent) c.new-undeliverables.ensures.items in
    record {
      with_inboxes = c.in_ok-deliver.ensures.with_inboxes ∙ received_same combining c.args.sent sent arranged c.args.vertex_table.with_inboxes.items;
      ids_stay = refl;
      lists = subst (λ xs. ListsActive xs c.in_ok-work.work.items) c.as_slice-2.ensures.value c.in_ok-work.ensures.lists;
      work_rises = c.in_ok-work.ensures.in_order;
      waiting = c.in_ok-undeliverable.ensures.waiting ∙ ap (waiting_after missing combining) undeliverables ∙ arranged.waits missing combining ids;
      dropped = c.in_ok-undeliverable.ensures.dropped ∙ ap (dropped_count missing) undeliverables ∙ arranged.dropped missing ids;
    }

pub deliver-requires-clause-ids : goal.deliver-requires-clause-ids
deliver-requires-clause-ids g c = λ _ _. c.requires.ids

pub deliver-requires-clause-rising : goal.deliver-requires-clause-rising
deliver-requires-clause-rising g c = λ _ _. c.requires.rising

pub deliver-requires-clause-empty : goal.deliver-requires-clause-empty
deliver-requires-clause-empty g c = λ _ _. c.requires.empty

pub deliver-requires-clause-lists : goal.deliver-requires-clause-lists
deliver-requires-clause-lists g c = λ _ _ _. c.requires.lists

pub active_in_order-requires : goal.active_in_order-requires
active_in_order-requires g c listed =
    subst (λ xs. ListsActive xs c.deliver.new.receivers.items) (sym c.as_slice-2.ensures.value) (c.in_ok-deliver.ensures.lists listed)
