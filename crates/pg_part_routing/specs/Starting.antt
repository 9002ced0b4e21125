-- Which vertices are a partition's, and where they begin.
use Rattle.std.specs.Prelude.{ℕ, List, map, Option}
use Rattle.std.specs.List.{filter}
use Rattle.std.specs.Option.{option_map}
use Rattle.pg_graph.specs.Rows.{Rows, row_at}
use Rattle.pg_model.specs.ByIds.{state_first}
use Rattle.pg_model.specs.Job.{Program}
use Rattle.pg_model.specs.Share.{belongs}
use Rattle.pg_model.specs.declared.configuration.VertexState.{VertexState}

-- the rows of a graph, and which partition of how many is meant
pub record PartRows : Type 0 where
  pub graph : Rows
  pub partition : ℕ
  pub partitions : ℕ

-- those of one partition
abbrev pub own : {X : Type 0} → ℕ → ℕ → List (ℕ × X) → List (ℕ × X)
own n p work_items = filter (λ c. belongs n p c.0) work_items

module _ {V M : Type 0} (program : Program V M) (rows : Rows) where
  -- the states with which the vertices of a partition begin
  abbrev pub first_states : ℕ → ℕ → List (VertexState V)
  first_states n p = map (λ r. state_first program r.0 r.1) (own n p rows)

  -- the state with which an id begins on these rows, or none
  abbrev pub first_change : ℕ → ℕ × Option (VertexState V)
  first_change id = (id, option_map (state_first program id) (row_at id rows))

  -- those of these ids that belong to a partition
  abbrev pub first_changes : ℕ → ℕ → List ℕ → List (ℕ × Option (VertexState V))
  first_changes n p ids = map first_change (filter (belongs n p) ids)
