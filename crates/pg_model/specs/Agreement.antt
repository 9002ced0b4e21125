-- What a program can tell apart of two supersteps: only what it has declared.
use Rattle.std.specs.Prelude.{◌≡◌, ℕ, ◌<◌, true, ℤ, length, slice_index_or}
use Rattle.pg_model.specs.Job.{has_place}
use Rattle.pg_model.specs.declared.view.Declared.{Declared}
use Rattle.pg_model.specs.declared.view.Visible.{Visible}

-- two masters' shows have as many places, and the same at those places and totals that are declared
pub record IsSeenAlike (declared : Declared) (a b : Visible) : Type 0 where
  pub places : length a.values ≡ length b.values
  pub values : (place : ℕ) (other : ℤ) → place < length a.values → has_place declared.reads place ≡ true
      → slice_index_or a.values place other ≡ slice_index_or b.values place other
  pub vertices : declared.total_vertices ≡ true → a.total_vertices ≡ b.total_vertices
  pub edges : declared.total_edges ≡ true → a.total_edges ≡ b.total_edges
