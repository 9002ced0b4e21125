use Rattle.std.proofs.Common.{take}
use Rattle.pg_import.specs.NamedEdges.{IsApart}
use Rattle.pg_import.proofs.named_edges.NamedEdges.search.Given as goal

abbrev pub invariant-loop-place : goal.invariant-loop-place
invariant-loop-place l = IsApart l.source l.target (take l.place l.self)
