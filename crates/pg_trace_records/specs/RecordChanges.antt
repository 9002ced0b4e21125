-- What changes give, each of them a record or none.
use Rattle.std.specs.Prelude.{ℕ, Bool, List, [], ◌∷◌, map, Option, None, Some, is_some, unwrap_or}
use Rattle.std.specs.List.{slice_get}
use Rattle.pg_map.specs.Entries.{value_at}
use Rattle.pg_model.specs.declared.record.Record.{Record}

module _ {X : Type 0} where
  -- what an id is given, if it is given anything
  abbrev pub given_to : ℕ → List (ℕ × Option X) → Option X
  given_to id changes = unwrap_or (value_at id changes) None

  -- what the one at a place is given
  abbrev pub given_at : ℕ → List (ℕ × Option X) → Option X
  given_at place changes = elim (slice_get changes place) [ None ↦ None | Some change ↦ change.1 ]

  -- which ids there are, and whether each is given something
  abbrev pub given_flags : List (ℕ × Option X) → List (ℕ × Bool)
  given_flags changes = map (λ c. (c.0, is_some c.1)) changes

module _ {V M : Type 0} where
  -- the messages that a vertex sends by its record, if it has one, each with its target, behind its id
  abbrev pub messages_by : ℕ × Option (Record V M) → List (ℕ × (ℕ × M))
  messages_by (id, None) = []
  messages_by (id, Some r) = map (λ m. (id, m)) r.sent
