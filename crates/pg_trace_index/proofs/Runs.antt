-- Lists of runs, or of what else has numbers, and the lists of the numbers.
use Rattle.std.proofs.Common.{◌≡◌, ℕ, zero, suc, ◌+◌, ◌<◌, ◌≤◌, Bool, true, false, cond, List, [], ◌∷◌, ◌++◌, length, map, take, get_or, None, Some}
use Rattle.std.proofs.Common.{unwrap_or, refl, sym, ap, ◌∙◌, arith, leb, ltb}
use Rattle.std.specs.List.{filter}
use Rattle.std.specs.List.Sorted.{IsNonDecreasingBy, IsPartitionPoint}
use Rattle.std.proofs.lemmas.Bool.{leb-true, leb-false, ltb-true, ltb-false}
use Rattle.std.proofs.lemmas.List.{get_or-map, length-map}
use Rattle.pg_trace_index.specs.Occurrences.{last_of, steps_above, steps_below, with_ran}
use Rattle.pg_trace_index.proofs.Supersteps.{lower, not_lower, ran_under}

-- what is added to a new list in three parts
pub in_three : {new one two three : List ℕ} (low mid high : List ℕ) → new ≡ [] → one ≡ new ++ low → two ≡ one ++ mid → three ≡ two ++ high
    → three ≡ low ++ mid ++ high
in_three low mid high new one two three = three ∙ ap (λ l. l ++ high) (two ∙ ap (λ l. l ++ mid) (one ∙ ap (λ l. l ++ low) new))

module _ {X : Type 0} (key : X → ℕ) where
  pub map-filter : (p : ℕ → Bool) (xs : List X) → map key (filter (λ x. p (key x)) xs) ≡ filter p (map key xs)
  map-filter p [] = refl
  map-filter p (x ∷ xs) = by (p (key x)) (map-filter p xs)
    where
      by : (b : Bool) → map key (filter (λ x. p (key x)) xs) ≡ filter p (map key xs)
          → map key (cond b (x ∷ filter (λ x. p (key x)) xs) (filter (λ x. p (key x)) xs)) ≡ cond b (key x ∷ filter p (map key xs)) (filter p (map key xs))
      by true later = ap (λ l. key x ∷ l) later
      by false later = later

  pub rise_by : (xs : List X) → IsNonDecreasingBy (λ t. t) (map key xs) → IsNonDecreasingBy key xs
  rise_by xs rises i j d le within =
      let len = length-map xs key in
      let low = get_or-map key xs i d (key d) (omega arith) in
      let high = get_or-map key xs j d (key d) within in
      let order = rises i j (key d) le (omega (arith, len, within)) in
      omega (arith, low, high, order)

  -- the last of all
  pub last_of_map : (xs : List X) (m : ℕ) (d : X) → suc m ≡ length xs → Some (key (get_or xs m d)) ≡ last_of (map key xs)
  last_of_map [] m d last = absurd (omega arith)
  last_of_map (x ∷ []) zero d last = refl
  last_of_map (x ∷ []) (suc m) d last = absurd (omega arith)
  last_of_map (x ∷ y ∷ ys) zero d last = absurd (omega arith)
  last_of_map (x ∷ y ∷ ys) (suc m) d last = ap (λ o. Some (unwrap_or o (key x))) (last_of_map (y ∷ ys) m d (omega arith))

  -- the first n lie below s, and the others don't
  front : (s n : ℕ) (xs : List X) → n ≤ length xs → ((k : ℕ) (d : X) → k < n → key (get_or xs k d) < s)
      → ((k : ℕ) (d : X) → n ≤ k → k < length xs → s ≤ key (get_or xs k d)) → filter (λ t. ltb t s) (map key xs) ≡ map key (take n xs)
  front s zero [] h low high = refl
  front s (suc n) [] h low high = absurd (omega arith)
  front s zero (x ∷ xs) h low high =
      ap (λ c. cond c (key x ∷ filter (λ t. ltb t s) (map key xs)) (filter (λ t. ltb t s) (map key xs)))
      (not_lower (key x) s (high 0 x (omega arith) (omega arith)))
      ∙ front s zero xs (omega arith) (λ k d w. absurd (omega arith)) (λ k d w v. high (suc k) d (omega arith) (omega arith))
  front s (suc n) (x ∷ xs) h low high =
      ap (λ c. cond c (key x ∷ filter (λ t. ltb t s) (map key xs)) (filter (λ t. ltb t s) (map key xs))) (lower (key x) s (low 0 x (omega arith)))
      ∙ ap (λ l. key x ∷ l)
      (front s n xs (omega arith) (λ k d w. low (suc k) d (omega arith)) (λ k d w v. high (suc k) d (omega arith) (omega arith)))

  -- all lie above s
  all_above : (s : ℕ) (xs : List X) → ((k : ℕ) (d : X) → k < length xs → s < key (get_or xs k d)) → steps_above s (map key xs) ≡ map key xs
  all_above s [] high = refl
  all_above s (x ∷ xs) high =
      ap (λ c. cond c (key x ∷ steps_above s (map key xs)) (steps_above s (map key xs))) (lower s (key x) (high 0 x (omega arith)))
      ∙ ap (λ l. key x ∷ l) (all_above s xs (λ k d w. high (suc k) d (omega arith)))

  -- the first n lie below s, the next one in it, and the others above it
  among : (s n : ℕ) (xs : List X) → n < length xs → ((k : ℕ) (d : X) → k < n → key (get_or xs k d) < s) → ((d : X) → key (get_or xs n d) ≡ s)
      → ((k : ℕ) (d : X) → n < k → k < length xs → s < key (get_or xs k d)) → with_ran s true (map key xs) ≡ map key xs
  among s n [] h low at high = absurd (omega arith)
  among s zero (x ∷ xs) h low at high =
      let same : key x ≡ s = at x in
      let behind : (k : ℕ) (d : X) → k < length xs → s < key (get_or xs k d) = λ k d w. high (suc k) d (omega arith) (omega arith) in
      let below : steps_below s (map key (x ∷ xs)) ≡ [] =
      ap (λ c. cond c (key x ∷ steps_below s (map key xs)) (steps_below s (map key xs))) (not_lower (key x) s (omega (arith, same)))
      ∙ front s 0 xs (omega arith) (λ k d w. absurd (omega arith)) (λ k d w v. let e = behind k d v in omega (arith, e)) in
      let above : steps_above s (map key (x ∷ xs)) ≡ map key xs =
      ap (λ c. cond c (key x ∷ steps_above s (map key xs)) (steps_above s (map key xs))) (not_lower s (key x) (omega (arith, same)))
      ∙ all_above s xs behind in
      ap (λ l. l ++ (s ∷ []) ++ steps_above s (map key (x ∷ xs))) below ∙ ap (λ l. s ∷ l) above ∙ ap (λ t. t ∷ map key xs) (sym same)
  among s (suc n) (x ∷ xs) h low at high =
      sym (ran_under (key x) s true true (map key xs) (low 0 x (omega arith)))
      ∙ ap (λ l. key x ∷ l)
      (among s n xs (omega arith) (λ k d w. low (suc k) d (omega arith)) at (λ k d w v. high (suc k) d (omega arith) (omega arith)))

  last_of-take : (n : ℕ) (xs : List X) (d : X) → n < length xs → last_of (map key (take (suc n) xs)) ≡ Some (key (get_or xs n d))
  last_of-take n [] d h = absurd (omega arith)
  last_of-take zero (x ∷ xs) d h = refl
  last_of-take (suc n) (x ∷ xs) d h = ap (λ l. Some (unwrap_or l (key x))) (last_of-take n xs d (omega arith))

  -- ---- a search among them

  module _ (s n : ℕ) (xs : List X) (within : n ≤ length xs) where
    below : IsPartitionPoint (λ y. ltb (key y) s ≡ true) (λ y. ltb (key y) s ≡ false) xs n → steps_below s (map key xs) ≡ map key (take n xs)
    below parts =
        front s n xs within (λ k d w. ltb-true (key (get_or xs k d)) s (parts.0 k d (omega arith) w))
        (λ k d w v. ltb-false (key (get_or xs k d)) s (parts.1 k d w v))

    up_to : IsPartitionPoint (λ y. leb (key y) s ≡ true) (λ y. leb (key y) s ≡ false) xs n → steps_below (s + 1) (map key xs) ≡ map key (take n xs)
    up_to parts =
        front (s + 1) n xs within (λ k d w. let e = leb-true (key (get_or xs k d)) s (parts.0 k d (omega arith) w) in omega (arith, e))
        (λ k d w v. let e = leb-false (key (get_or xs k d)) s (parts.1 k d w v) in omega (arith, e))

    -- where one more lies up to s than below it, s is that of just one, and one more note of it says nothing new
    pub once : IsPartitionPoint (λ y. leb (key y) s ≡ true) (λ y. leb (key y) s ≡ false) xs n
        → (m : ℕ) → IsPartitionPoint (λ y. ltb (key y) s ≡ true) (λ y. ltb (key y) s ≡ false) xs m → n ≡ m + 1 → with_ran s true (map key xs) ≡ map key xs
    once up_to m below next =
        among s m xs (omega arith) (λ k d w. ltb-true (key (get_or xs k d)) s (below.0 k d (omega arith) w))
        (λ d. let low : key (get_or xs m d) ≤ s = leb-true (key (get_or xs m d)) s (up_to.0 m d (omega arith) (omega arith)) in
        let high : s ≤ key (get_or xs m d) = ltb-false (key (get_or xs m d)) s (below.1 m d (omega arith) (omega arith)) in omega (arith, low, high))
        (λ k d w v. let e = leb-false (key (get_or xs k d)) s (up_to.1 k d (omega arith) v) in omega (arith, e))

    none_found : (steps : List ℕ) → steps ≡ map key (take n xs) → n ≡ 0 → None ≡ last_of steps
    none_found steps found first = sym (ap last_of (found ∙ ap (λ k. map key (take k xs)) first))

    last_found : (steps : List ℕ) → steps ≡ map key (take n xs) → (m : ℕ) (d : X) → suc m ≡ n → Some (key (get_or xs m d)) ≡ last_of steps
    last_found steps found m d last = sym (ap last_of (found ∙ ap (λ k. map key (take k xs)) (sym last)) ∙ last_of-take m xs d (omega arith))

    pub none_below : IsPartitionPoint (λ y. ltb (key y) s ≡ true) (λ y. ltb (key y) s ≡ false) xs n → n ≡ 0 → None ≡ last_of (steps_below s (map key xs))
    none_below parts = none_found (steps_below s (map key xs)) (below parts)

    pub last_below : IsPartitionPoint (λ y. ltb (key y) s ≡ true) (λ y. ltb (key y) s ≡ false) xs n → (m : ℕ) (d : X) → suc m ≡ n
        → Some (key (get_or xs m d)) ≡ last_of (steps_below s (map key xs))
    last_below parts = last_found (steps_below s (map key xs)) (below parts)

    pub none_up_to : IsPartitionPoint (λ y. leb (key y) s ≡ true) (λ y. leb (key y) s ≡ false) xs n → n ≡ 0
        → None ≡ last_of (steps_below (s + 1) (map key xs))
    none_up_to parts = none_found (steps_below (s + 1) (map key xs)) (up_to parts)

    pub last_up_to : IsPartitionPoint (λ y. leb (key y) s ≡ true) (λ y. leb (key y) s ≡ false) xs n → (m : ℕ) (d : X) → suc m ≡ n
        → Some (key (get_or xs m d)) ≡ last_of (steps_below (s + 1) (map key xs))
    last_up_to parts = last_found (steps_below (s + 1) (map key xs)) (up_to parts)
