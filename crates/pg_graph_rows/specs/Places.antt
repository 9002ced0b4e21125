-- Places in a list of edges: where an edge is, and where a new one goes.
use Rattle.std.specs.Prelude.{◌≡◌, ℕ, ℤ, ◌<◌, ◌≤◌, length, true, is_some, slice_index_or, Some, None}
use Rattle.std.specs.List.{insert, remove, slice_set}
use Rattle.pg_graph_rows.specs.EdgeList.{EdgeList, weight_at, with_edge, without_edge}

-- the edge to a target is at this place
pub record IsPlaceOf (target : ℕ) (edges : EdgeList) (place : ℕ) : Type 0 where
  pub in_range : place < length edges
  pub there : is_some (weight_at target edges) ≡ true
  pub held : (d : ℕ × ℤ) → weight_at target edges ≡ Some (slice_index_or edges place d).1
  pub written : (weight : ℤ) → slice_set edges place (target, weight) ≡ with_edge target weight edges
  pub removed : remove edges place ≡ without_edge target edges

-- there is no edge to a target, and one would go to this place
pub record IsGapFor (target : ℕ) (edges : EdgeList) (place : ℕ) : Type 0 where
  pub in_range : place ≤ length edges
  pub absent : weight_at target edges ≡ None
  pub unchanged : without_edge target edges ≡ edges
  pub inserted : (weight : ℤ) → insert edges place (target, weight) ≡ with_edge target weight edges
