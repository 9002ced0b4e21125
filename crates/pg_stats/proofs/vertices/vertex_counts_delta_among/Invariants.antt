use Rattle.std.proofs.Common.{◌≡◌, ◌+◌, take}
use Rattle.pg_stats.specs.VertexCounts.{states_among}
use Rattle.pg_stats.specs.Stats.{vertex_counts_of}
use Rattle.pg_stats.proofs.vertices.vertex_counts_delta_among.Given as goal

abbrev pub invariant-loop-id : goal.invariant-loop-id
invariant-loop-id g l = record {
  removed : l.removed ≡ vertex_counts_of (states_among l.superstep (take l.id-index l.ids) l.trace);
  added : l.added ≡ vertex_counts_of (states_among (l.superstep + 1) (take l.id-index l.ids) l.trace);
  same : l.states ≡ l.trace;
}
