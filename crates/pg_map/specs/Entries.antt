-- The entries of a map: ids with values, by rising id, and what changes make of them.
use Rattle.std.specs.Prelude.{◌≡◌, ◌<◌, ℕ, nat_le, List, [], ◌∷◌, Option, None, Some}
use Rattle.std.specs.BTreeMap.{insert_entry, is_at}
use Rattle.std.specs.List.{AllByRecursion, filter}
use Rattle.std.specs.List.Sorted.{IsStrictlySortedBy}
use Rattle.std.specs.Map.{keys_of, lookup, remove_entry}
use Rattle.std.specs.Ordering.{nat_cmp}

-- the ids rise, so none stands twice
abbrev pub HasRisingIds : {V : Type 0} → List (ℕ × V) → Type 0
HasRisingIds entries = IsStrictlySortedBy nat_cmp (keys_of entries)

-- the value at an id
abbrev pub value_at : {V : Type 0} → ℕ → List (ℕ × V) → Option V
value_at id entries = lookup (is_at (nat_cmp id)) entries

-- these entries neither all lie above an id nor all below it
abbrev pub Spans : {V : Type 0} → ℕ → List (ℕ × V) → Type 0
Spans id entries = (AllByRecursion (λ e. id < e.0) entries → ⊥) × (AllByRecursion (λ e. e.0 < id) entries → ⊥)

-- some of all entries, which rise by id, and none between them is omitted: what lies between two of them lies between
-- two of all
abbrev pub IsSlice : {V : Type 0} → List (ℕ × V) → List (ℕ × V) → Type 0
IsSlice entries all = HasRisingIds entries
    × ((id : ℕ) → Spans id entries → Spans id all × (value_at id all ≡ value_at id entries))

-- the entries from an id on
abbrev pub entries_from : {V : Type 0} → ℕ → List (ℕ × V) → List (ℕ × V)
entries_from id entries = filter (λ e. nat_le id e.0) entries

-- with this value at an id, or with none
abbrev pub with_change : {V : Type 0} → ℕ → Option V → List (ℕ × V) → List (ℕ × V)
with_change id None entries = remove_entry (is_at (nat_cmp id)) entries
with_change id (Some value) entries = insert_entry nat_cmp entries id value

-- with all changes
abbrev pub with_changes : {V : Type 0} → List (ℕ × Option V) → List (ℕ × V) → List (ℕ × V)
with_changes [] entries = entries
with_changes (change ∷ changes) entries = with_changes changes (with_change change.0 change.1 entries)

-- the ids of changes rise
abbrev pub ChangesRise : {V : Type 0} → List (ℕ × Option V) → Type 0
ChangesRise changes = IsStrictlySortedBy nat_cmp (keys_of changes)

-- the values that changes give, with their ids
abbrev pub somes : {V : Type 0} → List (ℕ × Option V) → List (ℕ × V)
somes [] = []
somes ((id, None) ∷ changes) = somes changes
somes ((id, Some value) ∷ changes) = (id, value) ∷ somes changes
