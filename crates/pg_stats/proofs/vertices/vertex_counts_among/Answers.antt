use Rattle.std.proofs.Common.{ap, subst, take, ◌∙◌}
use Rattle.std.specs.Option.{option_to_list}
use Rattle.pg_stats.specs.VertexCounts.{IsSum, states_among}
use Rattle.pg_stats.specs.Stats.{vertex_counts_of}
use Rattle.pg_trace.specs.Trace.{state_at}
use Rattle.pg_stats.proofs.Counting.{one_taken, with_push}
use Rattle.pg_stats.proofs.vertices.vertex_counts_among.Goals as goal

pub loop-id-preserved : goal.loop-id-preserved
loop-id-preserved g c =
    let s = c.args.superstep in
    let trace = c.args.trace.now in
    let ids = c.args.ids.now in
    let i = c.loop-id.id-index in
    let id = c.id-item.result in
    let found = c.state_at.result in
    let after = c.in_ok-vertex_counts.vertex_counts in
    let sum = subst (λ counts. IsSum counts (vertex_counts_of (option_to_list found)) after) c.loop-id.invariant.counted c.in_ok-vertex_counts.ensures in
    record {
      counted = with_push s trace (take i ids) id found after
          (c.state_at.ensures.value ∙ ap (state_at id s) c.loop-id.invariant.same) sum
          ∙ ap (λ l. vertex_counts_of (states_among s l trace)) (one_taken ids i c.loop-id-test.true c.id-item.is);
      same = c.state_at.ensures.same ∙ c.loop-id.invariant.same;
    }
