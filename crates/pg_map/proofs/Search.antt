-- A binary search among entries by rising key finds what a look-up finds.
use Rattle.std.proofs.Common.{◌≡◌, ℕ, ◌<◌, ◌≤◌, List, length, get_or, ltb, nat_eq, true, false, Some, None, inl, inr, sym, ap, ◌∙◌, arith}
use Rattle.std.specs.Ordering.{nat_cmp, ordering_index}
use Rattle.std.specs.declared.cmp.Ordering.TheVariants.{Less, Equal, Greater}
use Rattle.std.specs.Cmp.{nat_cmp_total, eq_by_cmp_equiv}
use Rattle.std.specs.BTreeMap.{is_at}
use Rattle.std.specs.Map.{lookup, keys_of}
use Rattle.std.specs.List.{HoldsAt, slice_get}
use Rattle.std.specs.List.Sorted.{IsStrictlySortedBy, IsPartitionPoint, IsNonDecreasingBy}
use Rattle.std.proofs.lemmas.Bool.Decides.{nat_tests}
use Rattle.std.proofs.lemmas.Bool.{cases_lt}
use Rattle.std.proofs.lemmas.List.{get_or-map}
use Rattle.std.proofs.lemmas.Map.Entries.{length-keys_of, lookup_from_place, lookup_at_gap}
use Rattle.std.proofs.lemmas.Map.Keys.{IsDistinct-from_sorted, below_from_sorted}
use Rattle.std.proofs.lemmas.Map.Lookups.{exact_unsigned}
use Rattle.std.proofs.lemmas.Option.{slice_get-get_or, get_or_from_slice_get, slice_get_within}

-- the comparison read from its other side
Greater-from_Less : (a b : ℕ) → nat_cmp a b ≡ Less → nat_cmp b a ≡ Greater
Greater-from_Less a b e = grind (arith, nat_tests)

Less-from_Greater : (a b : ℕ) → nat_cmp a b ≡ Greater → nat_cmp b a ≡ Less
Less-from_Greater a b e = grind (arith, nat_tests)

Less-from_test : (a b : ℕ) → ltb a b ≡ true → nat_cmp a b ≡ Less
Less-from_test a b h = grind (arith, nat_tests)

Greater-from_tests : (a b : ℕ) → ltb a b ≡ false → nat_eq a b ≡ false → nat_cmp a b ≡ Greater
Greater-from_tests a b h n = grind (arith, nat_tests)

index_rises : (a b k : ℕ) → a ≤ b → ordering_index (nat_cmp a k) ≤ ordering_index (nat_cmp b k)
index_rises a b k h = grind (arith, nat_tests)

module _ {X : Type 0} where
  pub lookup_found : (es : List (ℕ × X)) (k i : ℕ) (d : ℕ × X) → IsStrictlySortedBy nat_cmp (keys_of es) → i < length es
      → HoldsAt (λ y. nat_cmp y.0 k ≡ Equal) es i → lookup (is_at (nat_cmp k)) es ≡ Some (get_or es i d).1
  lookup_found es k i d rising within here =
      let same = exact_unsigned (get_or es i d).0 k (here d) in
      let place = slice_get-get_or es i d within ∙ ap (λ (n : ℕ). Some (n, (get_or es i d).1)) same in
      lookup_from_place (eq_by_cmp_equiv nat_cmp_total) es i k (get_or es i d).1 (IsDistinct-from_sorted nat_cmp (keys_of es) rising) place

  -- at a place whose element is known
  Greater_at : (es : List (ℕ × X)) (k j : ℕ) (e : ℕ × X) → slice_get es j ≡ Some e → nat_cmp (get_or es j e).0 k ≡ Less → nat_cmp k e.0 ≡ Greater
  Greater_at es k j e at less = Greater-from_Less e.0 k (ap (λ (x : ℕ × X). nat_cmp x.0 k) (sym (get_or_from_slice_get es j e e at)) ∙ less)

  Less_at : (es : List (ℕ × X)) (k j : ℕ) (e : ℕ × X) → slice_get es j ≡ Some e → nat_cmp (get_or es j e).0 k ≡ Greater → nat_cmp k e.0 ≡ Less
  Less_at es k j e at greater = Less-from_Greater e.0 k (ap (λ (x : ℕ × X). nat_cmp x.0 k) (sym (get_or_from_slice_get es j e e at)) ∙ greater)

  pub lookup_missing : (es : List (ℕ × X)) (k i : ℕ) → IsStrictlySortedBy nat_cmp (keys_of es)
      → IsPartitionPoint (λ y. nat_cmp y.0 k ≡ Less) (λ y. nat_cmp y.0 k ≡ Greater) es i → lookup (is_at (nat_cmp k)) es ≡ None
  lookup_missing es k i rising parts =
      lookup_at_gap nat_cmp_total k es i rising
      (λ j e below at. Greater_at es k j e at (parts.0 j e (omega arith) below))
      (λ e at. Less_at es k i e at (parts.1 i e (omega arith) (slice_get_within es i e at)))

  -- by tests alone: where so many entries are below a key, the next has it, or none has
  pub lookup_next : (es : List (ℕ × X)) (k i : ℕ) (e : ℕ × X) → IsStrictlySortedBy nat_cmp (keys_of es) → slice_get es i ≡ Some e → e.0 ≡ k
      → lookup (is_at (nat_cmp k)) es ≡ Some e.1
  lookup_next es k i e rising at same =
      lookup_from_place (eq_by_cmp_equiv nat_cmp_total) es i k e.1 (IsDistinct-from_sorted nat_cmp (keys_of es) rising)
      (at ∙ ap (λ (n : ℕ). Some (n, e.1)) same)

  pub lookup_past : (es : List (ℕ × X)) (k i : ℕ) → IsStrictlySortedBy nat_cmp (keys_of es)
      → IsPartitionPoint (λ y. ltb y.0 k ≡ true) (λ y. ltb y.0 k ≡ false) es i
      → ((e : ℕ × X) → slice_get es i ≡ Some e → nat_eq e.0 k ≡ false) → lookup (is_at (nat_cmp k)) es ≡ None
  lookup_past es k i rising parts other =
      lookup_at_gap nat_cmp_total k es i rising
      (λ j e below at. Greater_at es k j e at (Less-from_test (get_or es j e).0 k (parts.0 j e (omega arith) below)))
      (λ e at. Less_at es k i e at
      (Greater-from_tests (get_or es i e).0 k (parts.1 i e (omega arith) (slice_get_within es i e at))
      (ap (λ (x : ℕ × X). nat_eq x.0 k) (get_or_from_slice_get es i e e at) ∙ other e at)))

  key_at : (es : List (ℕ × X)) (i : ℕ) (d : ℕ × X) → i < length es → get_or (keys_of es) i d.0 ≡ (get_or es i d).0
  key_at es i d h = get_or-map (λ (e : ℕ × X). e.0) es i d d.0 h

  pub rises : (es : List (ℕ × X)) (i j : ℕ) (d : ℕ × X) → IsStrictlySortedBy nat_cmp (keys_of es) → i ≤ j → j < length es
      → (get_or es i d).0 ≤ (get_or es j d).0
  rises es i j d rising h within =
      elim (cases_lt i j) [
        | inl less ↦ omega (
          arith,
          below_from_sorted (keys_of es) i j d.0 rising less (omega (arith, length-keys_of es)),
          key_at es i d
              (omega arith),
          key_at es j d within,
        )
        | inr more ↦ let same : i ≡ j = omega arith in omega (arith, ap (λ (n : ℕ). (get_or es n d).0) same)
      ]

  -- where keys rise, what they compare to doesn't fall
  pub searchable : (es : List (ℕ × X)) (k : ℕ) → IsStrictlySortedBy nat_cmp (keys_of es) → IsNonDecreasingBy (λ y. ordering_index (nat_cmp y.0 k)) es
  searchable es k rising i j d h within = index_rises (get_or es i d).0 (get_or es j d).0 k (rises es i j d rising h within)
