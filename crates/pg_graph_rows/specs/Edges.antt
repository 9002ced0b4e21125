-- What an `Edges` holds.
use Rattle.std.specs.Prelude.{ℕ, ◌+◌, ◌≤◌, None, Some, [], length, take, drop}
use Rattle.std.specs.Arc.{arc_value}
use Rattle.pg_graph_rows.specs.EdgeList.{EdgeList, IsRising}
use Rattle.pg_graph_rows.specs.declared.edges.Edges.TheInside.{Inside}

-- so many edges of a list, from this place on
abbrev pub part_of : ℕ → ℕ → EdgeList → EdgeList
part_of first degree edges = take degree (drop first edges)

-- the list has so many there, and they rise
pub record IsPart (first degree : ℕ) (edges : EdgeList) : Type 0 where
  pub within : first + degree ≤ length edges
  pub rise : IsRising (part_of first degree edges)

abbrev pub edges_of : Inside → EdgeList
edges_of e = elim e.shared [ None ↦ [] | Some shared ↦ part_of e.first e.degree (arc_value shared).items ]

abbrev pub IsSound : Inside → Type 0
IsSound e = elim e.shared [ None ↦ Unit {0} | Some shared ↦ IsPart e.first e.degree (arc_value shared).items ]
