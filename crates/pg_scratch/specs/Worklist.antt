-- Lists of the places of active vertices, so that a superstep costs what its active vertices cost.
use Rattle.std.specs.Prelude.{◌≡◌, ℕ, ◌<◌, true, List, length, Some}
use Rattle.std.specs.List.{slice_get}
use Rattle.pg_model.specs.Superstep.{is_active, has_id}
use Rattle.pg_model.specs.declared.configuration.VertexWithInbox.{VertexWithInbox}

-- each place on the list is one of the vertices', and the place of each active vertex is on it
pub record ListsActive {V M : Type 0} (xs : List (VertexWithInbox V M)) (places : List ℕ) : Type 0 where
  pub within : (place : ℕ) → has_id places place ≡ true → place < length xs
  pub covers : (place : ℕ) (x : VertexWithInbox V M) → slice_get xs place ≡ Some x → is_active x ≡ true
      → has_id places place ≡ true
