-- What one partition sent in a superstep, as it lies in memory.
use Rattle.std.specs.Prelude.{◌≡◌, ◌==◌, ◌<◌, ℕ, cond, List, [], ◌∷◌, length, map, get_or, Option, None, Some}
use Rattle.std.specs.Prelude.{MatchOption}
use Rattle.std.specs.List.{AllByRecursion, range_with_len}
use Rattle.pg_inbox_bundles.specs.declared.logged_bundle.LoggedBundle.{LoggedBundle}

module _ {X : Type 0} where
  -- the last entry with a number
  abbrev pub last_at : ℕ → List (ℕ × X) → Option X
  last_at number [] = None
  last_at number (e ∷ es) = elim (last_at number es) [ None ↦ cond (e.0 == number) (Some e.1) None | Some x ↦ Some x ]

  abbrev pub IsLastAt : ℕ → List (ℕ × X) → Option ℕ → Type 0
  IsLastAt number es place = MatchOption place (last_at number es ≡ None)
      (λ p. (p < length es) × ((e : ℕ × X) → last_at number es ≡ Some (get_or es p e).1))

  -- the numbers of all are below a count
  abbrev pub AreBelow : ℕ → List (ℕ × X) → Type 0
  AreBelow count es = AllByRecursion (λ e. e.0 < count) es

-- nothing, or nothing in it
abbrev pub AreNone : {X : Type 0} → Option (List X) → Type 0
AreNone None = Unit {0}
AreNone (Some xs) = xs ≡ []

-- what is in a slot: the usual, where no entry says another
abbrev pub slot_in : {M : Type 0} → LoggedBundle M → List (ℕ × Option (LoggedBundle M)) → ℕ → Option (LoggedBundle M)
slot_in usual others q = elim (last_at q others) [ None ↦ Some usual | Some slot ↦ slot ]

-- so many slots
abbrev pub slots_in : {M : Type 0} → ℕ → LoggedBundle M → List (ℕ × Option (LoggedBundle M))
    → List (Option (LoggedBundle M))
slots_in count usual others = map (slot_in usual others) (range_with_len 0 count)
