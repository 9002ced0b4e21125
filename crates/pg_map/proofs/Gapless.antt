-- Rising entries between whose first and last no id is left out.
use Rattle.std.proofs.Common.{◌≡◌, ℕ, zero, suc, ◌+◌, ◌-◌, ◌<◌, ◌≤◌, List, length, get_or, ltb, true, false, ap, ◌∙◌, arith}
use Rattle.std.specs.List.Sorted.{IsPartitionPoint}
use Rattle.std.specs.Map.{keys_of}
use Rattle.std.proofs.lemmas.Bool.{lt-ltb, le-ltb}
use Rattle.std.proofs.lemmas.List.{get_or-map, get_or_default}
use Rattle.std.proofs.lemmas.Map.Entries.{length-keys_of}
use Rattle.std.proofs.lemmas.Map.Keys.{below_from_sorted}
use Rattle.pg_map.specs.Entries.{HasRisingIds}
use Rattle.pg_map.proofs.Search.{rises}

module _ {X : Type 0} (es : List (ℕ × X)) (rising : HasRisingIds es) (d : ℕ × X) where
  below_next : (i j : ℕ) → i < j → j < length es → (get_or es i d).0 < (get_or es j d).0
  below_next i j h within =
      omega (
        arith,
        below_from_sorted (keys_of es) i j d.0 rising h (omega (arith, length-keys_of es)),
        get_or-map (λ (e : ℕ × X). e.0) es i d d.0 (omega arith),
        get_or-map (λ (e : ℕ × X). e.0) es j d d.0 within,
      )

  -- so many entries on, the id is as much higher at least
  as_much_higher : (i n : ℕ) → i + n < length es → (get_or es i d).0 + n ≤ (get_or es (i + n) d).0
  as_much_higher i zero within = omega (arith, let same : i + 0 ≡ i = omega arith in ap (λ (k : ℕ). (get_or es k d).0) same)
  as_much_higher i (suc n) within =
      omega
      (arith, as_much_higher i n (omega arith), below_next (i + n) (i + suc n) (omega arith) within)

  number_at : (end : ℕ) → end + 1 ≡ length es → (get_or es end d).0 ≡ (get_or es 0 d).0 + end → (k : ℕ) → k ≤ end
      → (get_or es k d).0 ≡ (get_or es 0 d).0 + k
  number_at end all whole k h =
      let on : k + (end - k) ≡ end = omega arith in
      let from : 0 + k ≡ k = omega arith in
      omega
      (arith, as_much_higher 0 k (omega arith), ap (λ (i : ℕ). (get_or es i d).0) from, as_much_higher k (end - k) (omega arith), ap (λ (i : ℕ). (get_or es i d).0) on)

  -- where an entry has an id, so many are below it
  parts_at : (k : ℕ) → k < length es → (id : ℕ) → (get_or es k d).0 ≡ id → IsPartitionPoint (λ e. ltb e.0 id ≡ true) (λ e. ltb e.0 id ≡ false) es k
  parts_at k within id here = (λ i x w h. before i x h, λ i x h w. behind i x h w)
    where
      before : (i : ℕ) (x : ℕ × X) → i < k → ltb (get_or es i x).0 id ≡ true
      before i x h =
          lt-ltb (get_or es i x).0 id
          (omega (arith, here, below_next i k h within, ap (λ (e : ℕ × X). e.0) (get_or_default es i x d (omega arith))))

      behind : (i : ℕ) (x : ℕ × X) → k ≤ i → i < length es → ltb (get_or es i x).0 id ≡ false
      behind i x h w =
          le-ltb (get_or es i x).0 id
          (omega (arith, here, rises es k i d rising h w, ap (λ (e : ℕ × X). e.0) (get_or_default es i x d w)))

-- where the numbers of the first and the last are as far apart as their places, and another lies from the one to the other
module _ {X : Type 0} (es : List (ℕ × X)) (rising : HasRisingIds es) (first last : ℕ × X) (first_is : first ≡ get_or es 0 first)
    (last_is : last ≡ get_or es (length es - 1) last) (some : 0 < length es) (from to number id : ℕ) (begins : from ≡ first.0)
    (ends : to ≡ last.0) (is : number ≡ id) (low : from ≤ number) (high : number ≤ to) (whole : to - from ≡ length es - 1) where
  pub place_within : number - from < length es
  place_within = omega (arith, whole, low, high, some)

  here : (get_or es (number - from) first).0 ≡ id
  here =
      let all : length es - 1 + 1 ≡ length es = omega (arith, some) in
      let at_first : first.0 ≡ (get_or es 0 first).0 = ap (λ e. e.0) first_is in
      let at_last : last.0 ≡ (get_or es (length es - 1) first).0 =
      ap (λ e. e.0) (last_is ∙ get_or_default es (length es - 1) last first (omega (arith, some))) in
      let apart : (get_or es (length es - 1) first).0 ≡ (get_or es 0 first).0 + (length es - 1) =
      omega (arith, at_first, at_last, begins, ends, whole, low, high) in
      omega
      (arith, number_at es rising first (length es - 1) all apart (number - from) (omega (arith, place_within)), at_first, begins, is, low)

  pub entry_there : (e : ℕ × X) → e ≡ get_or es (number - from) e → e.0 ≡ id
  entry_there e e_is = ap (λ x. x.0) (e_is ∙ get_or_default es (number - from) e first place_within) ∙ here

  pub parts_there : IsPartitionPoint (λ e. ltb e.0 id ≡ true) (λ e. ltb e.0 id ≡ false) es (number - from)
  parts_there = parts_at es rising first (number - from) place_within id here
