-- The values that changes give.
use Rattle.std.proofs.Common.{◌≡◌, ℕ, Bool, true, false, cond, List, [], ◌∷◌, ◌++◌, Option, None, Some, refl, sym, ap, ◌∙◌}
use Rattle.std.specs.BTreeMap.{is_at}
use Rattle.std.specs.List.{AllByRecursion}
use Rattle.std.specs.List.Sorted.{IsStrictlySortedBy}
use Rattle.std.specs.Map.{keys_of}
use Rattle.std.specs.Option.{unwrap_or}
use Rattle.std.specs.Ordering.{nat_cmp}
use Rattle.std.specs.declared.cmp.Ordering.TheVariants.{Less}
use Rattle.pg_map.specs.Entries.{ChangesRise, HasRisingIds, somes, value_at, with_changes}
use Rattle.pg_map.proofs.Changing.{rises-changes, value_at-with_changes}
use Rattle.pg_map.proofs.Rising.{none_past, same_entries}

pub nothing_rises : (X : Type 0) → HasRisingIds {V = X} []
unfolding IsStrictlySortedBy
nothing_rises X = tt

module _ {X : Type 0} where
  somes_above : (k : ℕ) (changes : List (ℕ × Option X)) → AllByRecursion (λ i. nat_cmp k i ≡ Less) (keys_of changes)
      → AllByRecursion (λ i. nat_cmp k i ≡ Less) (keys_of (somes changes))
  somes_above k [] h = tt
  somes_above k ((id, None) ∷ changes) h = somes_above k changes h.1
  somes_above k ((id, Some x) ∷ changes) h = (h.0, somes_above k changes h.1)

  pub somes_rise : (changes : List (ℕ × Option X)) → ChangesRise changes → HasRisingIds (somes changes)
  unfolding IsStrictlySortedBy
  somes_rise [] h = tt
  somes_rise ((id, None) ∷ changes) h = somes_rise changes h.1
  somes_rise ((id, Some x) ∷ changes) h = (somes_above id changes h.0, somes_rise changes h.1)

  pub value_at-somes : (changes : List (ℕ × Option X)) → ChangesRise changes → (q : ℕ)
      → value_at q (somes changes) ≡ unwrap_or (value_at q changes) None
  unfolding IsStrictlySortedBy
  value_at-somes [] h q = refl
  value_at-somes ((id, None) ∷ changes) h q = value_at-somes changes h.1 q ∙ by (is_at (nat_cmp q) id) refl
    where
      by : (b : Bool) → is_at (nat_cmp q) id ≡ b
          → unwrap_or (value_at q changes) None ≡ unwrap_or (cond b (Some None) (value_at q changes)) None
      by true e = ap (λ o. unwrap_or o None) (none_past q (id, None) changes h e)
      by false e = refl
  value_at-somes ((id, Some x) ∷ changes) h q = by (is_at (nat_cmp q) id) (value_at-somes changes h.1 q)
    where
      by : (b : Bool) → value_at q (somes changes) ≡ unwrap_or (value_at q changes) None
          → cond b (Some x) (value_at q (somes changes)) ≡ unwrap_or (cond b (Some (Some x)) (value_at q changes)) None
      by true later = refl
      by false later = later

  -- changes of nothing leave what they give
  pub somes_are : (changes : List (ℕ × Option X)) → ChangesRise changes → somes changes ≡ with_changes changes []
  somes_are changes h =
      same_entries (somes changes) (with_changes changes []) (somes_rise changes h)
      (rises-changes changes [] (nothing_rises X))
      (λ q. value_at-somes changes h q ∙ sym (value_at-with_changes changes [] q h (nothing_rises X)))

  pub somes-append : (xs ys : List (ℕ × Option X)) → somes (xs ++ ys) ≡ somes xs ++ somes ys
  somes-append [] ys = refl
  somes-append ((id, None) ∷ xs) ys = somes-append xs ys
  somes-append ((id, Some x) ∷ xs) ys = ap (λ l. (id, x) ∷ l) (somes-append xs ys)
