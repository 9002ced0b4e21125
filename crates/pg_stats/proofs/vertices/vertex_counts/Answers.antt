use Rattle.std.proofs.Common.{ap, length, subst₂, take, ◌∙◌}
use Rattle.pg_stats.specs.VertexCounts.{IsSum, of_one}
use Rattle.pg_stats.specs.Stats.{vertex_counts_of}
use Rattle.pg_stats.proofs.Counting.{vertex_counts_push, one_taken}
use Rattle.pg_stats.proofs.vertices.vertex_counts.Goals as goal

pub loop-state-preserved : goal.loop-state-preserved
loop-state-preserved g c =
    let states = c.args.states.now in
    let i = c.loop-state.state-index in
    let state = c.state-item.result in
    vertex_counts_push (take i states) state c.in_ok-vertex_counts.vertex_counts
    (subst₂ (λ vertex_counts edges. IsSum vertex_counts (of_one (length edges) state.halted) c.in_ok-vertex_counts.vertex_counts)
    c.loop-state.invariant c.as_slice.ensures.value c.in_ok-vertex_counts.ensures)
    ∙ ap vertex_counts_of (one_taken states i c.loop-state-test.true c.state-item.is)
