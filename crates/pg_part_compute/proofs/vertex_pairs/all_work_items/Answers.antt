use Rattle.std.proofs.Common.{length, map, true, sym, subst, ◌∙◌}
use Rattle.std.proofs.lemmas.Bool.{eqb-true}
use Rattle.std.proofs.lemmas.List.{nil_from_length}
use Rattle.std.proofs.lemmas.Result.{IfOk-weaker}
use Rattle.pg_part_compute.specs.VertexPairs.{AreWorkItems}
use Rattle.pg_part_compute.proofs.WorkItems.{are_work_items, are_receivers}
use Rattle.pg_part_compute.proofs.vertex_pairs.all_work_items.Goals as goal

pub returns-then-is_empty : goal.returns-then-is_empty
returns-then-is_empty g c =
    let combining = g.C.MessageCombiner.combining c.args.combiner.now in
    let bundles = map (λ b. b.now) c.args.bundles.now in
    let ids = c.args.ids.now in
    let none = nil_from_length ids (eqb-true (length ids) 0 (sym c.is_empty.ensures ∙ c.if-is_empty.true)) in
    subst (λ ids. AreWorkItems combining bundles ids true c.in_ok-inboxes.inboxes) (sym none)
    (are_receivers combining bundles c.in_ok-inboxes.inboxes c.in_ok-inboxes.ensures)

pub returns : goal.returns
returns g c =
    let combining = g.C.MessageCombiner.combining c.args.combiner.now in
    let bundles = map (λ b. b.now) c.args.bundles.now in
    IfOk-weaker c.with_empty.result _ _ (λ work_items is. subst (AreWorkItems combining bundles c.args.ids.now true) (sym is)
    (are_work_items combining bundles c.args.ids.now c.in_ok-inboxes.inboxes c.requires c.in_ok-inboxes.ensures)) c.with_empty.ensures
