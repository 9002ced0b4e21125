use Rattle.std.proofs.Common.{◌≡◌, take}
use Rattle.pg_stats.specs.Stats.{vertex_counts_of}
use Rattle.pg_stats.proofs.vertices.vertex_counts.Given as goal

abbrev pub invariant-loop-state : goal.invariant-loop-state
invariant-loop-state g l = l.vertex_counts ≡ vertex_counts_of (take l.state-index l.states)
