-- What an edit at a place makes of entries by rising number.
use Rattle.std.proofs.Common.{◌≡◌, ℕ, ℤ, pos, subst, zero, suc, ◌<◌, ◌≤◌, List, [], ◌∷◌, length, get_or, set, Some, None, is_some, true, false, cond}
use Rattle.std.proofs.Common.{Bool, Ordering, Result, Ok, Err, IfOk, IfErr, refl, sym, ap, ◌∙◌, arith}
use Rattle.std.specs.declared.cmp.Ordering.TheVariants.{Less, Equal, Greater}
use Rattle.std.specs.Ordering.{nat_cmp, match_ordering, is_eq}
use Rattle.std.specs.BTreeMap.{insert_entry, is_at}
use Rattle.std.specs.Map.{keys_of, lookup, remove_entry}
use Rattle.std.specs.List.{AllByRecursion, insert, remove}
use Rattle.std.specs.List.Sorted.{IsStrictlySortedBy, IsSearchInRange, IsBinarySearchResult}
use Rattle.std.proofs.lemmas.Bool.{true≢false}
use Rattle.std.proofs.lemmas.Bool.Decides.{nat_tests}
use Rattle.std.proofs.lemmas.Map.Keys.{sorted_head, sorted_tail}
use Rattle.std.proofs.lemmas.Map.Lookups.{exact_unsigned}
use Rattle.pg_graph_rows.specs.EdgeList.{EdgeList, IsRising}
use Rattle.pg_graph_rows.specs.Places.{IsPlaceOf, IsGapFor}
use Rattle.pg_map.proofs.Rising.{rises-insert, rises-remove}
use Rattle.pg_map.proofs.Search.{lookup_found, lookup_missing, searchable}

Equal-turned : (a b : ℕ) → nat_cmp a b ≡ Equal → nat_cmp b a ≡ Equal
Equal-turned a b h = grind (arith, nat_tests)

Less-turned : (a b : ℕ) → nat_cmp a b ≡ Less → nat_cmp b a ≡ Greater
Less-turned a b h = grind (arith, nat_tests)

Greater-turned : (a b : ℕ) → nat_cmp a b ≡ Greater → nat_cmp b a ≡ Less
Greater-turned a b h = grind (arith, nat_tests)

Less-Equal : (a b c : ℕ) → nat_cmp a b ≡ Less → nat_cmp b c ≡ Equal → nat_cmp c a ≡ Greater
Less-Equal a b c h e = grind (arith, nat_tests)

module _ {X : Type 0} where
  put_step : (e : ℕ × X) (es : List (ℕ × X)) (k : ℕ) (v : X) (r : Ordering) → nat_cmp k e.0 ≡ r
      → insert_entry nat_cmp (e ∷ es) k v ≡ match_ordering r ((k, v) ∷ e ∷ es) ((e.0, v) ∷ es) (e ∷ insert_entry nat_cmp es k v)
  put_step e es k v r h = ap (λ o. match_ordering o ((k, v) ∷ e ∷ es) ((e.0, v) ∷ es) (e ∷ insert_entry nat_cmp es k v)) h

  cut_step : (e : ℕ × X) (es : List (ℕ × X)) (k : ℕ) (t : Bool) → is_at (nat_cmp k) e.0 ≡ t
      → remove_entry (is_at (nat_cmp k)) (e ∷ es) ≡ cond t es (e ∷ remove_entry (is_at (nat_cmp k)) es)
  cut_step e es k t h = ap (λ b. cond b es (e ∷ remove_entry (is_at (nat_cmp k)) es)) h

  below_at : (k : ℕ) (es : List (ℕ × X)) (i : ℕ) (d : ℕ × X) → AllByRecursion (λ y. nat_cmp k y ≡ Less) (keys_of es) → i < length es
      → nat_cmp k (get_or es i d).0 ≡ Less
  below_at k [] i d all within = absurd (omega arith)
  below_at k (e ∷ es) zero d all within = all.0
  below_at k (e ∷ es) (suc i) d all within = below_at k es i d all.1 (omega arith)

  -- the key at a place of the tail is above the head
  above_head : (e : ℕ × X) (es : List (ℕ × X)) (k i : ℕ) → IsStrictlySortedBy nat_cmp (keys_of (e ∷ es)) → i < length es
      → nat_cmp (get_or es i e).0 k ≡ Equal → nat_cmp k e.0 ≡ Greater
  above_head e es k i rising within here = Less-Equal e.0 (get_or es i e).0 k (below_at e.0 es i e (sorted_head nat_cmp e.0 (keys_of es) rising) within) here

  written_at : (es : List (ℕ × X)) (k i : ℕ) (v : X) → IsStrictlySortedBy nat_cmp (keys_of es) → i < length es
      → ((d : ℕ × X) → nat_cmp (get_or es i d).0 k ≡ Equal) → set es i (k, v) ≡ insert_entry nat_cmp es k v
  written_at [] k i v rising within here = absurd (omega arith)
  written_at (e ∷ es) k zero v rising within here =
      ap (λ q. (q, v) ∷ es) (sym (exact_unsigned e.0 k (here e))) ∙ sym (put_step e es k v Equal (Equal-turned e.0 k (here e)))
  written_at (e ∷ es) k (suc i) v rising within here =
      ap (λ l. e ∷ l) (written_at es k i v (sorted_tail nat_cmp e.0 (keys_of es) rising) (omega arith) here)
      ∙ sym (put_step e es k v Greater (above_head e es k i rising (omega arith) (here e)))

  removed_at : (es : List (ℕ × X)) (k i : ℕ) → IsStrictlySortedBy nat_cmp (keys_of es) → i < length es
      → ((d : ℕ × X) → nat_cmp (get_or es i d).0 k ≡ Equal) → remove es i ≡ remove_entry (is_at (nat_cmp k)) es
  removed_at [] k i rising within here = absurd (omega arith)
  removed_at (e ∷ es) k zero rising within here = sym (cut_step e es k true (ap is_eq (Equal-turned e.0 k (here e))))
  removed_at (e ∷ es) k (suc i) rising within here =
      ap (λ l. e ∷ l) (removed_at es k i (sorted_tail nat_cmp e.0 (keys_of es) rising) (omega arith) here)
      ∙ sym (cut_step e es k false (ap is_eq (above_head e es k i rising (omega arith) (here e))))

  inserted_at : (es : List (ℕ × X)) (k i : ℕ) (v : X) → i ≤ length es → ((j : ℕ) (d : ℕ × X) → j < i → nat_cmp (get_or es j d).0 k ≡ Less)
      → ((j : ℕ) (d : ℕ × X) → i ≤ j → j < length es → nat_cmp (get_or es j d).0 k ≡ Greater)
      → insert es i (k, v) ≡ insert_entry nat_cmp es k v
  inserted_at [] k zero v within below above = refl
  inserted_at [] k (suc i) v within below above = absurd (omega arith)
  inserted_at (e ∷ es) k zero v within below above = sym (put_step e es k v Less (Greater-turned e.0 k (above 0 e (omega arith) (omega arith))))
  inserted_at (e ∷ es) k (suc i) v within below above =
      ap (λ l. e ∷ l) (inserted_at es k i v (omega arith) (λ j d h. below (suc j) d (omega arith)) (λ j d h g. above (suc j) d (omega arith) (omega arith)))
      ∙ sym (put_step e es k v Greater (Less-turned e.0 k (below 0 e (omega arith))))

  -- where nothing is found, nothing is removed
  pub cut_absent : (es : List (ℕ × X)) (k : ℕ) → lookup (is_at (nat_cmp k)) es ≡ None → remove_entry (is_at (nat_cmp k)) es ≡ es
  cut_absent [] k none = refl
  cut_absent (e ∷ es) k none = by (is_at (nat_cmp k) e.0) none (cut_absent es k)
    where
      by : (t : Bool) → cond t (Some e.1) (lookup (is_at (nat_cmp k)) es) ≡ None
          → (lookup (is_at (nat_cmp k)) es ≡ None → remove_entry (is_at (nat_cmp k)) es ≡ es) → cond t es (e ∷ remove_entry (is_at (nat_cmp k)) es) ≡ e ∷ es
      by true n later = absurd (true≢false (ap is_some n))
      by false n later = ap (λ l. e ∷ l) (later n)

-- what a binary search among edges answers
pub searched : (edges : EdgeList) (target : ℕ) (r : Result ℕ ℕ) → IsRising edges → IsSearchInRange r (length edges)
    → IsBinarySearchResult (λ e. nat_cmp e.0 target) edges r
    → record { found : IfOk r (IsPlaceOf target edges); absent : IfErr r (IsGapFor target edges) }
searched edges target (Ok place) rising within here = record {
  found = record {
    in_range = within;
    there = ap is_some (lookup_found edges target place (get_or edges place (0, pos 0)) rising within here);
    held = λ d. lookup_found edges target place d rising within here;
    written = λ weight. written_at edges target place weight rising within here;
    removed = removed_at edges target place rising within here;
  };
  absent = tt;
}
searched edges target (Err place) rising within parted =
    let parts = parted (searchable edges target rising) in
    record {
      found = tt;
      absent = record {
        in_range = within;
        absent = lookup_missing edges target place rising parts;
        unchanged = cut_absent edges target (lookup_missing edges target place rising parts);
        inserted = λ weight. inserted_at edges target place weight within (λ j d h. parts.0 j d (omega arith) h) (λ j d h g. parts.1 j d h g);
      };
    }

-- ---- the edges still rise

module _ (edges : EdgeList) (target place : ℕ) (rising : IsRising edges) where
  pub rises_written : (weight : ℤ) → IsPlaceOf target edges place → IsRising (set edges place (target, weight))
  rises_written weight here = subst IsRising (sym (here.written weight)) (rises-insert edges target weight rising)

  pub rises_inserted : (weight : ℤ) (made : EdgeList) → IsGapFor target edges place → made ≡ insert edges place (target, weight) → IsRising made
  rises_inserted weight made here is = subst IsRising (sym (is ∙ here.inserted weight)) (rises-insert edges target weight rising)

  pub rises_removed : (made : EdgeList) → IsPlaceOf target edges place → made ≡ remove edges place → IsRising made
  rises_removed made here is = subst IsRising (sym (is ∙ here.removed)) (rises-remove target edges rising)
