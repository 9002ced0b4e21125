-- Items by target.
use Rattle.std.specs.Prelude.{◌≡◌, ℕ, ◌==◌, ◌<◌, zero, suc, false, cond, List, [], ◌∷◌, ◌++◌, length, map, Option, None}
use Rattle.std.specs.Prelude.{Some}
use Rattle.std.specs.List.{filter}
use Rattle.pg_map.specs.Entries.{HasRisingIds, value_at}
use Rattle.pg_model.specs.Superstep.{is_empty}

module _ {X : Type 0} where
  abbrev pub items_to : ℕ → List (ℕ × X) → List X
  items_to target items = map (λ i. i.1) (filter (λ i. i.0 == target) items)

  -- what there is of some items, if there are any
  abbrev pub any_of : List X → Option (List X)
  any_of [] = None
  any_of (x ∷ xs) = Some (x ∷ xs)

  -- each target of items has those that go to it, in their order, and stands once, by rising target
  pub record AreGroups (items : List (ℕ × X)) (groups : List (ℕ × List X)) : Type 0 where
    pub rise : HasRisingIds groups
    pub stated : (target : ℕ) → value_at target groups ≡ any_of (items_to target items)

  -- how many items at the beginning are to a target
  abbrev pub run_len : ℕ → List (ℕ × X) → ℕ
  run_len target [] = zero
  run_len target (i ∷ items) = cond (i.0 == target) (suc (run_len target items)) zero

  -- an item before groups: in the first of them, if that has its target
  abbrev pub before_groups : ℕ × X → List (ℕ × List X) → List (ℕ × List X)
  before_groups i [] = (i.0, i.1 ∷ []) ∷ []
  before_groups i (g ∷ groups) = cond (g.0 == i.0) ((i.0, i.1 ∷ g.1) ∷ groups) ((i.0, i.1 ∷ []) ∷ g ∷ groups)

  -- those that stand side by side of each target
  abbrev pub groups_of : List (ℕ × X) → List (ℕ × List X)
  groups_of [] = []
  groups_of (i ∷ items) = before_groups i (groups_of items)

  -- the items to the first target, and the others
  pub record IsFirstGroup (items : List (ℕ × X)) (target : ℕ) (here later : List (ℕ × X)) : Type 0 where
    pub whole : items ≡ here ++ later
    pub some : is_empty here ≡ false
    pub fewer : length later < length items
    pub groups : groups_of items ≡ (target, map (λ i. i.1) here) ∷ groups_of later
