use Rattle.std.proofs.Common.{◌≡◌, length}
use Rattle.pg_map.specs.Entries.{with_changes}
use Rattle.pg_graph.specs.Grouped.{AreDealt}
use Rattle.pg_graph.specs.Rows.{edge_count}
use Rattle.pg_graph.proofs.grouped.dealt_with.Given as goal

abbrev pub invariant-loop-first : goal.invariant-loop-first
invariant-loop-first l = record {
  dealt : AreDealt l.graph l.edits l.remaining l.rows l.fault;
  found : l.cursor ≡ l.graph;
  counted : l.edges ≡ edge_count (with_changes l.rows l.graph);
}

abbrev pub decreases-loop-first : goal.decreases-loop-first
decreases-loop-first l = length l.remaining
