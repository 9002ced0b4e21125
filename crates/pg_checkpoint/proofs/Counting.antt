-- How many out-edges are counted.
use Rattle.std.proofs.Common.{◌≡◌, ℕ, zero, suc, ◌==◌, ◌&&◌, ◌||◌, Bool, true, List, [], ◌∷◌, ◌++◌, length, map, take, Option, refl, sym, ap, ◌∙◌, arith, ap₂, T, cond, false, None, Some}
use Rattle.std.specs.Cmp.{nat_cmp_total, nat_eq_equiv, unsigned_tied}
use Rattle.std.specs.FinMap.{entries-from_sorted, from_entries, from_sorted, get-from_entries, get-from_sorted, keys, nat_cmp-IsAntisymmetric, same_map}
use Rattle.std.specs.FinMap.Entries.{below_all, find, is_sorted}
use Rattle.std.specs.List.{AllByRecursion, flat_map, sum_by}
use Rattle.std.specs.List.Sorted.{IsStrictlySortedBy}
use Rattle.std.specs.Map.{keys_of}
use Rattle.std.specs.Option.{option_map, option_or, option_to_list}
use Rattle.std.specs.Ordering.{is_lt, nat_cmp}
use Rattle.std.specs.declared.cmp.Ordering.TheVariants.{Less}
use Rattle.std.proofs.lemmas.List.{take_all}
use Rattle.pg_checkpoint.specs.Records.{Supersteps, edges_behind, ids_behind}
use Rattle.pg_trace.specs.Handed.{last_record}
use Rattle.pg_model.specs.Superstep.{has_id}
use Rattle.pg_model.specs.declared.configuration.VertexState.{VertexState}
use Rattle.pg_stats.specs.VertexCounts.{states_among}
use Rattle.pg_stats.specs.Stats.{vertex_counts_of}
use Rattle.pg_trace.specs.Trace.{Trace, left_by, state_of}

abbrev marked : ℕ → ℕ × Unit {0}
marked k = (k, tt {0})

both_true : (a b : Bool) → a ≡ true → b ≡ true → (a && b) ≡ true
both_true true b p q = q
both_true false b p q = p

below : (k : ℕ) (ks : List ℕ) → AllByRecursion (λ y. nat_cmp k y ≡ Less) ks → below_all nat_cmp k (map marked ks) ≡ true
below k [] h = refl
below k (y ∷ ks) h = both_true _ _ (ap is_lt h.0) (below k ks h.1)

rises : (ks : List ℕ) → IsStrictlySortedBy nat_cmp ks → is_sorted nat_cmp (map marked ks) ≡ true
unfolding IsStrictlySortedBy
rises [] h = refl
rises (k ∷ ks) h = both_true _ _ (below k ks h.0) (rises ks h.1)

firsts : (ks : List ℕ) → map (λ e. e.0) (map marked ks) ≡ ks
firsts [] = refl
firsts (k ∷ ks) = ap (λ l. k ∷ l) (firsts ks)

abbrev mark : Bool → Option (Unit {0})
mark b = cond b (Some tt) None

found : (q : ℕ) (ks : List ℕ) → find nat_cmp q (map marked ks) ≡ mark (has_id ks q)
found q [] = refl
found q (k ∷ ks) =
    ap₂ (λ b o. cond b (Some tt) o) (unsigned_tied q k ∙ nat_eq_equiv.symm q k) (found q ks) ∙ either (k == q) (has_id ks q)
  where
    either : (a b : Bool) → cond a (Some tt) (mark b) ≡ mark (a || b)
    either true b = refl
    either false b = refl

truth : (b : Bool) → b ≡ true → T b
truth true p = tt
truth false p = absurd cc

-- rising ids with the same members as a list are the keys that it has
rising_are : (unsorted sorted : List ℕ) → IsStrictlySortedBy nat_cmp sorted → ((id : ℕ) → has_id sorted id ≡ has_id unsorted id)
    → keys (from_entries {R = nat_cmp} (map marked unsorted)) ≡ sorted
rising_are unsorted sorted rise same =
    let rises = truth _ (rises sorted rise) in
    ap keys (same_map nat_cmp_total nat_cmp-IsAntisymmetric (from_entries (map marked unsorted)) (from_sorted (map marked sorted)) (λ q.
    get-from_entries nat_cmp_total (map marked unsorted) q ∙ found q unsorted ∙ ap mark (sym (same q)) ∙ sym (found q sorted)
    ∙ sym (get-from_sorted nat_cmp (map marked sorted) q rises)))
    ∙ ap (λ es. map (λ e. e.0) es) (entries-from_sorted nat_cmp (map marked sorted) rises) ∙ firsts sorted

taken_length : {X : Type 0} (p : ℕ) (xs : List X) → take (length (take p xs)) xs ≡ take p xs
taken_length zero xs = refl
taken_length (suc p) [] = refl
taken_length (suc p) (x ∷ xs) = ap (λ l. x ∷ l) (taken_length p xs)

module _ {V M : Type 0} (initial : List (VertexState V)) (xs : Supersteps V M) where
  abbrev trace_of : Supersteps V M → Trace V M
  trace_of records = record { initial = initial; records = records }

  -- their out-edges behind these supersteps, of these ids
  abbrev counted : List ℕ → Supersteps V M → ℕ
  counted ids taken = sum_by (λ x. length x.edges)
      (flat_map (λ id. option_to_list (option_or (option_map (left_by id) (last_record id taken)) (state_of id initial))) ids)

  -- the first so many supersteps are those taken
  pub those_taken : (p n : ℕ) → n ≡ length (take p xs) → take n xs ≡ take p xs
  those_taken p n is = ap (λ k. take k xs) is ∙ taken_length p xs

  pub edges_are : (p n : ℕ) (unsorted sorted : List ℕ) → n ≡ length (take p xs)
      → unsorted ≡ map (λ x. x.id) initial ++ flat_map keys_of (take n xs) → IsStrictlySortedBy nat_cmp sorted
      → ((id : ℕ) → has_id sorted id ≡ has_id unsorted id)
      → (vertex_counts_of (states_among n sorted (trace_of xs))).edges ≡ edges_behind initial (take p xs)
  edges_are p n unsorted sorted is ids rise same =
      let few : take n xs ≡ take p xs = those_taken p n is in
      let all : take (length (take p xs)) (take p xs) ≡ take p xs = take_all (length (take p xs)) (take p xs) (omega arith) in
      let those : ids_behind initial (take p xs) ≡ sorted =
      ap (λ l. keys (from_entries {R = nat_cmp} (map marked (map (λ x. x.id) initial ++ flat_map keys_of l)))) (sym few)
      ∙ rising_are _ sorted rise (λ id. same id ∙ ap (λ l. has_id l id) ids) in
      ap₂ counted (sym those) (few ∙ sym all)
