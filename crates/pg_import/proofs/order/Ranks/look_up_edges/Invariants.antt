use Rattle.std.proofs.Common.{◌≡◌, List}
use Rattle.pg_graph.specs.Rows.{Rows}
use Rattle.pg_import.specs.Ranks.{EndsAreKnown}
use Rattle.pg_import.specs.declared.line.Line.{Line}
use Rattle.pg_import.proofs.order.Ranks.look_up_edges.Given as goal

abbrev pub invariant-loop-place : goal.invariant-loop-place
invariant-loop-place l = record {
  same : l.looked_up ≡ l.fn.looked_up;
  ends : (rows : Rows) (all : List Line) → EndsAreKnown rows all l.fn.self → EndsAreKnown rows all l.self;
}
