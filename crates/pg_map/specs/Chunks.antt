-- How a map lies in memory: its entries cut into chunks, and these into groups.
use Rattle.std.specs.Prelude.{◌≡◌, ℕ, ◌<◌, ◌≤◌, ◌⊎◌, Option, List, [], ◌∷◌, length, get_or, true, None, Some, is_some}
use Rattle.std.specs.Arc.{arc_value}
use Rattle.std.specs.List.{AllByRecursion, flat_map}
use Rattle.pg_map.specs.Entries.{HasRisingIds, value_at}
use Rattle.pg_map.specs.declared.part.Node.{Node}
use Rattle.pg_map.specs.declared.group_list.GroupList.{GroupList}

-- the entries of a chunk
abbrev pub listed : {V : Type 0} → Node (ℕ × V) → List (ℕ × V)
listed chunk = (arc_value chunk.items).items

abbrev pub entries_of : {V : Type 0} → List (Node (ℕ × V)) → List (ℕ × V)
entries_of chunks = flat_map listed chunks

abbrev pub chunks_in : {V : Type 0} → Node (Node (ℕ × V)) → List (Node (ℕ × V))
chunks_in group = (arc_value group.items).items

-- the entries of a group
abbrev pub grouped : {V : Type 0} → Node (Node (ℕ × V)) → List (ℕ × V)
grouped group = entries_of (chunks_in group)

abbrev pub all_of : {V : Type 0} → List (Node (Node (ℕ × V))) → List (ℕ × V)
all_of groups = flat_map grouped groups

abbrev pub groups_of : {V : Type 0} → GroupList V → List (Node (Node (ℕ × V)))
groups_of group_list = elim group_list.shared [ None ↦ [] | Some shared ↦ (arc_value shared).items ]

-- there is a first entry, at this id
abbrev pub StartsAt : {V : Type 0} → ℕ → List (ℕ × V) → Type 0
StartsAt id [] = ⊥
StartsAt id (e ∷ entries) = id ≡ e.0

-- there is a first entry, at this id, and so many in all
abbrev pub IsPart : {V : Type 0} → ℕ → ℕ → List (ℕ × V) → Type 0
IsPart first count entries = StartsAt first entries × (count ≡ length entries)

-- each part has a first entry, and knows its id and how many there are
abbrev pub AreParts : {V T : Type 0} → (Node T → List (ℕ × V)) → List (Node T) → Type 0
AreParts entries parts = AllByRecursion (λ part. IsPart part.first part.count (entries part)) parts

abbrev pub AreChunks : {V : Type 0} → List (Node (ℕ × V)) → Type 0
AreChunks chunks = AreParts listed chunks

abbrev pub AreGroups : {V : Type 0} → List (Node (Node (ℕ × V))) → Type 0
AreGroups groups = AreParts grouped groups × AllByRecursion (λ group. AreChunks (chunks_in group)) groups

pub record AreSound {V : Type 0} (groups : List (Node (Node (ℕ × V)))) (len : ℕ) : Type 0 where
  pub rise : HasRisingIds (all_of groups)
  pub groups_are : AreGroups groups
  pub counted : len ≡ length (all_of groups)

-- these changes fall before the first of these parts, and those don't
abbrev pub AreCut : {T X : Type 0} → List (Node T) → List (ℕ × Option X) → List (ℕ × Option X) → Type 0
AreCut [] here later = later ≡ []
AreCut (p ∷ ps) here later = AllByRecursion (λ x. x.0 < p.first) here × AllByRecursion (λ x. p.first ≤ x.0) later

-- no change falls into the first parts, so many
abbrev pub ArePast : {T X : Type 0} → ℕ → List (Node T) → List (ℕ × Option X) → Type 0
ArePast n parts [] = Unit {0}
ArePast n parts (c ∷ cs) = (n ≡ 0) ⊎ ((n < length parts) × ((p : Node _) → (get_or parts n p).first ≤ c.0))

-- each change gives a value to an id that is there
abbrev pub AreThere : {V : Type 0} → List (ℕ × Option V) → List (ℕ × V) → Type 0
AreThere changes entries = AllByRecursion (λ c. (is_some c.1 ≡ true) × (is_some (value_at c.0 entries) ≡ true)) changes
