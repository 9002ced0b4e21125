-- Entries by rising id that leave out none from the first to the last.
use Rattle.std.proofs.Common.{◌≡◌, ℕ, ◌+◌, ◌≤◌, ◌<◌, leb, Bool, true, false, cond, List, [], ◌∷◌, length, is_some, IsSome, Option, None, Some, refl, sym, subst, ap, ◌∙◌, arith}
use Rattle.std.specs.BTreeMap.{is_at}
use Rattle.std.specs.List.{AllByRecursion}
use Rattle.std.specs.List.Sorted.{IsStrictlySortedBy}
use Rattle.std.specs.Ordering.{nat_cmp}
use Rattle.std.specs.Map.Iter.{TakesFirst}
use Rattle.std.proofs.lemmas.Bool.{true≢false}
use Rattle.std.proofs.lemmas.Bool.Decides.{nat_tests}
use Rattle.pg_map.specs.Entries.{HasRisingIds, entries_from, value_at}

module _ {X : Type 0} (last : ℕ) where
  abbrev NoneAbove : List (ℕ × X) → Type 0
  NoneAbove entries = AllByRecursion (λ e. e.0 ≤ last) entries

  none_from : (entries : List (ℕ × X)) → entries_from last entries ≡ [] → NoneAbove entries
  none_from [] none = tt
  none_from (e ∷ es) none = by (leb last e.0) refl none (none_from es)
    where
      by : (b : Bool) → leb last e.0 ≡ b → cond b (e ∷ entries_from last es) (entries_from last es) ≡ []
          → (entries_from last es ≡ [] → NoneAbove es) → NoneAbove (e ∷ es)
      by true from none later = cc
      by false below none later = (grind (arith, nat_tests), later none)

  -- the only one from an id on is at it
  none_above : (entries : List (ℕ × X)) (x : ℕ × X) → entries_from last entries ≡ x ∷ [] → x.0 ≡ last → NoneAbove entries
  none_above [] x only at = cc
  none_above (e ∷ es) x only at = by (leb last e.0) refl only (λ h. none_above es x h at)
    where
      by : (b : Bool) → leb last e.0 ≡ b → cond b (e ∷ entries_from last es) (entries_from last es) ≡ x ∷ []
          → (entries_from last es ≡ x ∷ [] → NoneAbove es) → NoneAbove (e ∷ es)
      by true from only later =
          let same : e ≡ x = cc in
          let none : entries_from last es ≡ [] = cc in
          (omega (arith, ap (λ y. y.0) same, at), none_from es none)
      by false below only later = (grind (arith, nat_tests), later only)

  fits : (e : ℕ × X) (es : List (ℕ × X)) → HasRisingIds (e ∷ es) → NoneAbove (e ∷ es) → e.0 + length es ≤ last
  unfolding IsStrictlySortedBy
  fits e [] rise none = omega (arith, none.0)
  fits e (f ∷ es) rise none =
      let above : e.0 < f.0 = grind (arith, nat_tests, rise.0.0) in
      omega (arith, above, fits f es rise.1 none.1)

  first_there : (e : ℕ × X) (es : List (ℕ × X)) (id : ℕ) → id ≡ e.0 → IsSome (value_at id (e ∷ es))
  first_there e es id same = ap (λ b. is_some (cond b (Some e.1) (value_at id es))) (let at : is_at (nat_cmp id) e.0 ≡ true = grind (arith, nat_tests) in at)

  -- as many as there are ids from the first to the last
  each_there : (e : ℕ × X) (es : List (ℕ × X)) → HasRisingIds (e ∷ es) → NoneAbove (e ∷ es) → e.0 + length es ≡ last
      → (id : ℕ) → e.0 ≤ id → id ≤ last → IsSome (value_at id (e ∷ es))
  unfolding IsStrictlySortedBy
  each_there e [] rise none many id low high = first_there e [] id (omega (arith, many, low, high))
  each_there e (f ∷ es) rise none many id low high =
      let over : e.0 < f.0 = grind (arith, nat_tests, rise.0.0) in
      let next = fits f es rise.1 none.1 in
      by (is_at (nat_cmp id) e.0) refl
      (λ above. each_there f es rise.1 none.1 (omega (arith, many, over, next)) id (omega (arith, many, over, next, above)) high)
    where
      by : (b : Bool) → is_at (nat_cmp id) e.0 ≡ b → (e.0 < id → IsSome (value_at id (f ∷ es))) → IsSome (value_at id (e ∷ f ∷ es))
      by true at later = first_there e (f ∷ es) id (grind (arith, nat_tests))
      by false apart later =
          let above : e.0 < id = grind (arith, nat_tests) in
          subst (λ b. IsSome (cond b (Some e.1) (value_at id (f ∷ es)))) (sym apart) (later above)

  -- from the first of entries up to the only one from an id on, where they are as many as there are ids
  pub leaves_out_none : (entries : List (ℕ × X)) (first x : ℕ × X) (rest later : List (ℕ × X)) → HasRisingIds entries → entries ≡ first ∷ rest
      → entries_from last entries ≡ x ∷ later → later ≡ [] → x.0 ≡ last → first.0 + length entries ≡ last + 1
      → (id : ℕ) → first.0 ≤ id → id ≤ last → IsSome (value_at id entries)
  leaves_out_none entries first x rest later rise begins from none at many =
      let only : entries_from last (first ∷ rest) ≡ x ∷ [] = ap (entries_from last) (sym begins) ∙ from ∙ ap (λ l. x ∷ l) none in
      let count : first.0 + length (first ∷ rest) ≡ last + 1 = ap (λ l. first.0 + length l) (sym begins) ∙ many in
      subst (λ l. (id : ℕ) → first.0 ≤ id → id ≤ last → IsSome (value_at id l)) (sym begins)
      (each_there first rest (subst HasRisingIds begins rise) (none_above (first ∷ rest) x only at) (omega (arith, count)))

-- a step that gives nothing has nothing left
pub none_left : {A X : Type 0} (shows : A → X) (s t : List X) (r : Option A) → is_some r ≡ false → TakesFirst shows s r t → s ≡ []
none_left shows s t None none step = step.0
none_left shows s t (Some x) none step = absurd (true≢false none)
