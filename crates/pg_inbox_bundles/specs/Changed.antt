-- Where two bundles differ.
use Rattle.std.specs.Prelude.{◌≡◌, ℕ, ◌++◌, ◌⊎◌, true, false, List, [], ◌∷◌, Option, None, Some}
use Rattle.std.specs.List.Sorted.{IsStrictlySortedBy}
use Rattle.std.specs.Ordering.{nat_cmp, ord_min}
use Rattle.pg_model.specs.Superstep.{has_id}
use Rattle.pg_inbox_messages.specs.declared.message_list.Contents.{Contents}
use Rattle.pg_inbox_bundles.specs.Bundles.{MessageLists, entries_in, entries_to}

module _ {M : Type 0} (old new : MessageLists M) where
  -- others see the same of the messages to a target; or they don't
  abbrev pub AreSameAt : ℕ → Type 0
  AreSameAt id = entries_to id old ≡ entries_to id new

  abbrev pub DifferAt : ℕ → Type 0
  DifferAt id = AreSameAt id → ⊥

  -- just the ids whose entries differ, rising
  pub record AreChanged (ids : List ℕ) : Type 0 where
    pub rise : IsStrictlySortedBy nat_cmp ids
    pub differ : (id : ℕ) → has_id ids id ≡ true → DifferAt id
    pub others : (id : ℕ) → has_id ids id ≡ false → AreSameAt id

-- an id is added where others see something else of the messages to it
abbrev pub IsAdded : {M : Type 0} → ℕ → Option (Contents M) → Option (Contents M) → List ℕ → List ℕ → Type 0
IsAdded id old new before after =
    ((entries_in id old ≡ entries_in id new) × (after ≡ before))
    ⊎ ((entries_in id old ≡ entries_in id new → ⊥) × (after ≡ before ++ id ∷ []))

-- the lower of two ids, or the one that there is
abbrev pub lower : Option ℕ → Option ℕ → Option ℕ
lower None other = other
lower (Some id) None = Some id
lower (Some id) (Some other) = Some (ord_min nat_cmp id other)
