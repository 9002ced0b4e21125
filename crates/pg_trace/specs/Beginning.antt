-- How the states with which a partition began are kept: by id.
use Rattle.std.specs.Prelude.{◌≡◌, ℕ, List, map, Option, None, Some}
use Rattle.std.specs.List.{AllByRecursion}
use Rattle.std.specs.Map.{values_of}
use Rattle.pg_map.specs.Entries.{with_changes}
use Rattle.pg_model.specs.declared.configuration.VertexState.{VertexState}

module _ {V : Type 0} where
  -- each state stands under its own id
  abbrev pub AreById : List (ℕ × VertexState V) → Type 0
  AreById entries = AllByRecursion (λ e. e.1.id ≡ e.0) entries

  abbrev pub by_id : List (VertexState V) → List (ℕ × VertexState V)
  by_id states = map (λ x. (x.id, x)) states

  -- so does each that takes another's place
  abbrev pub IsById : ℕ → Option (VertexState V) → Type 0
  IsById id None = Unit {0}
  IsById id (Some x) = x.id ≡ id

  abbrev pub ChangesById : List (ℕ × Option (VertexState V)) → Type 0
  ChangesById changes = AllByRecursion (λ c. IsById c.0 c.1) changes

  -- states with others in place of some, or none
  abbrev pub with_first : List (ℕ × Option (VertexState V)) → List (VertexState V) → List (VertexState V)
  with_first changes states = values_of (with_changes changes (by_id states))
