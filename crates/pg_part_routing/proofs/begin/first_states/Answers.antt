use Rattle.std.proofs.Common.{ℕ, ◌++◌, [], ◌∷◌, append_assoc, map, ap, sym, ◌∙◌}
use Rattle.pg_graph.specs.Handed.{Row}
use Rattle.pg_model.specs.ByIds.{state_first}
use Rattle.pg_model.specs.declared.configuration.VertexState.{VertexState}
use Rattle.pg_part_routing.specs.Starting.{own}
use Rattle.pg_part_routing.proofs.Beginning.{own_more}
use Rattle.pg_part_routing.proofs.begin.first_states.Goals as goal

pub loop-id-preserved : goal.loop-id-preserved
loop-id-preserved g c =
    let n = c.args.share.now.partitions in
    let p = c.args.share.now.partition in
    let begins : ℕ × Row → VertexState g.row.P-Value.Denot = λ r. state_first (g.P.Computation.program c.args.program.now) r.0 r.1 in
    let one : ℕ × Row = (c.in-Some.id.now, c.in-Some.row.now) in
    let before = c.loop-id.states.items in
    let rest = c.next.new.self in
    ap (λ l. l ++ map begins (own n p rest)) c.in_ok-add_state.ensures
    ∙ (append_assoc before (map begins (own n p (one ∷ []))) (map begins (own n p rest))
    ∙ (ap (λ l. before ++ l) (own_more n p begins one rest)
    ∙ (ap (λ l. before ++ map begins (own n p l)) (sym c.in-Some.ensures.steps) ∙ c.loop-id.invariant)))
