use Rattle.std.proofs.Common.{◌≡◌, [], ◌∷◌, ◌++◌, w64, to_z, of_z, ap, sym, ◌∙◌, subst, rules}
use Rattle.pg_graph_rows.specs.EdgeList.{IsRising}
use Rattle.pg_map.proofs.Moved.{moved_one, moved_all}
use Rattle.pg_graph_rows.proofs.draft.edges_of.Goals as goal

pub loop-target-preserved : goal.loop-target-preserved
loop-target-preserved c =
    let before = c.loop-target.edges.items in
    let weight = c.in-Some.weight.now in
    let kept : to_z w64 (of_z w64 weight) ≡ weight = search rules in
    moved_one before c.next.new.self c.in-Some.ensures.steps c.loop-target.invariant
    (c.in_ok-push.ensures.items ∙ ap (λ w. before ++ (c.in-Some.target.now, w) ∷ []) kept)

pub from_rising-requires : goal.from_rising-requires
from_rising-requires c = subst IsRising (sym (moved_all c.loop-target.edges.items c.in-None.ensures.steps.0 c.loop-target.invariant)) c.len.ensures.ordered
