-- The edges that a graph has of vertices, as they were noted.
use Rattle.std.specs.Prelude.{◌≡◌, ℕ, ⊤, List, [], ◌∷◌, Option, None, Some, is_some}
use Rattle.pg_graph.specs.Handed.{EdgeList, IsRising, weight_at, Row}
use Rattle.pg_graph.specs.Rows.{Rows}
use Rattle.pg_import.specs.Batch.{has_edge}

-- these edges, by rising target, lead where those of a vertex do, and nowhere else
pub record LeadAsFrom (rows : Rows) (id : ℕ) (edges : EdgeList) : Type 0 where
  pub rising : IsRising edges
  pub targets : (target : ℕ) → is_some (weight_at target edges) ≡ has_edge id target rows

-- so it is of each vertex of a list
abbrev pub AreNoted : Rows → List ℕ → List EdgeList → Type 0
AreNoted rows [] [] = ⊤
AreNoted rows [] (edges ∷ others) = ⊥
AreNoted rows (id ∷ ids) [] = ⊥
AreNoted rows (id ∷ ids) (edges ∷ others) = LeadAsFrom rows id edges × AreNoted rows ids others

-- the edges of a row, and none without one
abbrev pub edges_of : Option Row → EdgeList
edges_of None = []
edges_of (Some row) = row.edges
