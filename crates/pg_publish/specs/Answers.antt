-- What is published: the answer of a run on an edition of the graph, with the names of its aggregates.
use Rattle.std.specs.Prelude.{◌≡◌, ℕ, ℤ, List, Option, length, slice_get}
use Rattle.std.specs.BTreeMap.{is_at}
use Rattle.std.specs.List.Sorted.{IsStrictlySortedBy}
use Rattle.std.specs.Map.{lookup, keys_of}
use Rattle.std.specs.Option.{option_and_then}
use Rattle.std.specs.Ordering.{nat_cmp}
use Rattle.pg_global.specs.Registry.{Registered, place_of}
use Rattle.pg_model.specs.Publications.{Publication}
use Rattle.pg_model.specs.declared.run.Run.{Run}

-- a publication, with the names of its aggregates in the order of their places
pub record Answered (V : Type 0) : Type 0 where
  pub publication : Publication V
  pub registered : Registered

-- the ids rise
abbrev pub HaveRisingIds : {V : Type 0} → List (ℕ × V) → Type 0
HaveRisingIds values = IsStrictlySortedBy nat_cmp (keys_of values)

-- there is one aggregate for each name, and the ids of the values rise
pub record IsWhole {V : Type 0} (answer : Run V) (registered : Registered) : Type 0 where
  pub named : length answer.aggregates ≡ length registered
  pub rising : HaveRisingIds answer.values

-- the value of a vertex, if it has one
abbrev pub value_of : {V : Type 0} → ℕ → List (ℕ × V) → Option V
value_of id values = lookup (is_at (nat_cmp id)) values

-- the aggregate with this name, if there is one
abbrev pub aggregate_of : List ℕ → Registered → List ℤ → Option ℤ
aggregate_of name registered aggregates = option_and_then (slice_get aggregates) (place_of name registered)
