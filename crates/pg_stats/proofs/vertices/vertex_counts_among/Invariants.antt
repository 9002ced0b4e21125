use Rattle.std.proofs.Common.{◌≡◌, take}
use Rattle.pg_stats.specs.VertexCounts.{states_among}
use Rattle.pg_stats.specs.Stats.{vertex_counts_of}
use Rattle.pg_stats.proofs.vertices.vertex_counts_among.Given as goal

abbrev pub invariant-loop-id : goal.invariant-loop-id
invariant-loop-id g l = record {
  counted : l.vertex_counts ≡ vertex_counts_of (states_among l.superstep (take l.id-index l.ids) l.trace);
  same : l.states ≡ l.trace;
}
