use Rattle.std.proofs.Common.{nat_cmp, ap, subst, sym, ◌∙◌}
use Rattle.std.specs.List.Sorted.{IsStrictlySortedBy}
use Rattle.std.proofs.lemmas.List.{nil_from_length}
use Rattle.pg_model.specs.InOrder.{AreWaiting}
use Rattle.pg_model.specs.Superstep.{ids, with_made}
use Rattle.pg_scratch.proofs.Merging.{made_in_place}
use Rattle.pg_scratch.proofs.vertex_table.with_waiting.Goals as goal

pub returns-clause-in_place : goal.returns-clause-in_place
returns-clause-in_place g c =
    made_in_place (g.P.Computation.program c.args.program.now) c.args.vertex_table (record {
      with_inboxes =
          c.in_ok-with_inboxes.with_inboxes;
      ids = c.in_ok-ids.ids;
      work = c.in_ok-work.work;
    }) c.args.waiting c.into_vec.result.items c.as_slice.result.now c.as_slice-2.result.now c.requires.in_place
    c.requires.waiting c.into_vec.ensures c.in_ok-with_inboxes.ensures c.in_ok-ids.ensures c.as_slice.ensures.value
    c.in_ok-work.ensures.lists c.as_slice-2.ensures.value c.in_ok-work.ensures.in_order

pub merged-requires-clause-rising : goal.merged-requires-clause-rising
merged-requires-clause-rising g c = λ _ _. subst (IsStrictlySortedBy nat_cmp) c.requires.in_place.ids_are c.requires.in_place.ids_rise

pub merged-requires-clause-waiting : goal.merged-requires-clause-waiting
merged-requires-clause-waiting g c = λ _ _. subst (AreWaiting (ids c.args.vertex_table.with_inboxes.items)) (sym c.into_vec.ensures) c.requires.waiting

pub returns-clause-with_inboxes : goal.returns-clause-with_inboxes
returns-clause-with_inboxes g c =
    c.in_ok-with_inboxes.ensures
    ∙ ap (with_made (g.P.Computation.program c.args.program.now) c.args.vertex_table.with_inboxes.items) c.into_vec.ensures

pub returns-then-len-eq0-clause-with_inboxes : goal.returns-then-len-eq0-clause-with_inboxes
returns-then-len-eq0-clause-with_inboxes g c =
    let none = nil_from_length c.args.waiting (sym c.len.ensures ∙ c.if-len-eq0.true) in
    sym (ap (with_made (g.P.Computation.program c.args.program.now) c.args.vertex_table.with_inboxes.items) none)
