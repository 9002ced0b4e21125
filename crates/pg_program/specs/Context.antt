-- What surrounds an execution: what it sees of the run, what was sent and contributed so far, and the count of calls.
use Rattle.std.specs.Prelude.{◌≡◌, ℕ, ℤ, true, List, Some, is_some}
use Rattle.std.specs.List.{slice_get}
use Rattle.pg_model.specs.Job.{has_place}
use Rattle.pg_model.specs.declared.view.Declared.{Declared}
use Rattle.pg_model.specs.declared.view.View.{View}

pub record Context (M : Type 0) : Type 0 where
  pub view : View
  pub writes : ℕ
  pub sent : List (ℕ × M)
  pub contributed : List (ℕ × ℤ)
  pub calls : ℕ

-- the aggregator at a place is shown, with this value
abbrev pub IsShownAt : View → ℕ → ℤ → Type 0
IsShownAt view place value = slice_get view.aggregates place ≡ Some (Some value)

-- the aggregator at a place is shown
pub record IsShown (view : View) (place : ℕ) : Type 0 where
  pub value : ℤ
  pub at : IsShownAt view place value

-- a program sees what it has declared
pub record ShowsDeclared (declared : Declared) (view : View) : Type 0 where
  pub aggregates : (place : ℕ) → has_place declared.reads place ≡ true → IsShown view place
  pub total_vertices : is_some view.total_vertices ≡ declared.total_vertices
  pub total_edges : is_some view.total_edges ≡ declared.total_edges
