use Rattle.std.proofs.Common.{◌≡◌, take}
use Rattle.pg_graph_rows.proofs.draft.map_of.Given as goal

abbrev pub invariant-loop-target : goal.invariant-loop-target
invariant-loop-target l = l.map.entries ≡ take l.target-index l.edges
