use Rattle.std.proofs.Common.{◌≡◌, ◌++◌}
use Rattle.pg_graph_rows.proofs.draft.edges_of.Given as goal

-- what is taken, and what is left, are the map's edges
abbrev pub invariant-loop-target : goal.invariant-loop-target
invariant-loop-target l = l.edges.items ++ l.target-iterator ≡ l.map.entries
