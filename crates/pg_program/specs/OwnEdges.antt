-- The edges that a vertex has in the midst of an execution.
use Rattle.std.specs.Prelude.{cond}
use Rattle.pg_graph.specs.Handed.{EdgeList}
use Rattle.pg_program.specs.declared.own_edges.OwnEdges.TheInside.{Inside}

abbrev pub edges_now : Inside → EdgeList
edges_now e = cond e.is_changed e.room.items e.shared
