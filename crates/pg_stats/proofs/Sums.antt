-- Sums over lists by a key: where two lists come to the same at all keys but some, their sums differ by what they come to at those.
use Rattle.std.proofs.Common.{◌≡◌, ℕ, zero, suc, ◌+◌, ◌<◌, ◌≤◌, Bool, true, false, cond, ◌==◌, ◌||◌, List, [], ◌∷◌, map}
use Rattle.std.proofs.Common.{refl, ap, ap₂, sym, ◌∙◌, arith, filter, subst, sum_by, zero-add, Option, None, Some}
use Rattle.std.specs.List.{AllByRecursion, find}
use Rattle.std.specs.List.Sorted.{IsStrictlySortedBy}
use Rattle.std.specs.Ordering.{nat_cmp}
use Rattle.std.specs.declared.cmp.Ordering.TheVariants.{Less}
use Rattle.std.proofs.lemmas.Bool.Decides.{nat_tests}
use Rattle.std.proofs.lemmas.List.Sums.{sum_by-cons}
use Rattle.pg_model.specs.Superstep.{has_id}

-- a sum over the numbers below a bound
abbrev sum_below : ℕ → (ℕ → ℕ) → ℕ
sum_below zero h = 0
sum_below (suc b) h = sum_below b h + h b

below-both : (b : ℕ) (f g : ℕ → ℕ) → sum_below b (λ k. f k + g k) ≡ sum_below b f + sum_below b g
below-both zero f g = refl
below-both (suc b) f g = omega (arith, below-both b f g)

below-same : (b : ℕ) (f g : ℕ → ℕ) → ((k : ℕ) → f k ≡ g k) → sum_below b f ≡ sum_below b g
below-same zero f g e = refl
below-same (suc b) f g e = ap₂ ◌+◌ (below-same b f g e) (e b)

below-zero : (b : ℕ) → sum_below b (λ k. 0) ≡ 0
below-zero zero = refl
below-zero (suc b) = omega (arith, below-zero b)

abbrev one_at : ℕ → ℕ → ℕ → ℕ
one_at i v k = cond (i == k) v 0

below-above : (b i v : ℕ) → b ≤ i → sum_below b (one_at i v) ≡ 0
below-above zero i v h = refl
below-above (suc b) i v h = ap₂ ◌+◌ (below-above b i v (omega (arith, h))) (other h)
  where
    other : suc b ≤ i → one_at i v b ≡ 0
    other h = grind (arith, nat_tests, h)

below-one : (b i v : ℕ) → i < b → sum_below b (one_at i v) ≡ v
below-one zero i v h = absurd (omega (arith, h))
below-one (suc b) i v h = by (i == b) refl (below-one b i v)
  where
    here : (i == b) ≡ true → b ≤ i
    here e = grind (arith, nat_tests, e)

    there : (i == b) ≡ false → i < suc b → i < b
    there e h = grind (arith, nat_tests, e, h)

    by : (t : Bool) → (i == b) ≡ t → (i < b → sum_below b (one_at i v) ≡ v) → sum_below b (one_at i v) + cond t v 0 ≡ v
    by true e k = omega (arith, below-above b i v (here e))
    by false e k = omega (arith, k (there e h))

module _ {X : Type 0} (key : X → ℕ) (weight : X → ℕ) where
  -- what the elements with a key come to
  abbrev pub at : ℕ → List X → ℕ
  at k xs = sum_by weight (filter (λ x. key x == k) xs)

  at-cons : (k : ℕ) (x : X) (xs : List X) → at k (x ∷ xs) ≡ one_at (key x) (weight x) k + at k xs
  at-cons k x xs = by (key x == k)
    where
      by : (t : Bool) → sum_by weight (cond t (x ∷ filter (λ x. key x == k) xs) (filter (λ x. key x == k) xs)) ≡ cond t (weight x) 0 + at k xs
      by true = sum_by-cons weight x (filter (λ x. key x == k) xs)
      by false = sym (zero-add (at k xs))

  -- a sum over all elements, by keys below a bound
  by_keys : (b : ℕ) (xs : List X) → AllByRecursion (λ x. key x < b) xs → sum_by weight xs ≡ sum_below b (λ k. at k xs)
  by_keys b [] h = sym (below-zero b)
  by_keys b (x ∷ xs) h =
      sum_by-cons weight x xs
      ∙ (ap₂ ◌+◌ (sym (below-one b (key x) (weight x) h.0)) (by_keys b xs h.1)
      ∙ (sym (below-both b (one_at (key x) (weight x)) (λ k. at k xs)) ∙ below-same b _ _ (λ k. sym (at-cons k x xs))))

  abbrev bound : List X → ℕ
  bound [] = 0
  bound (x ∷ xs) = suc (key x) + bound xs

  below_bound : (b : ℕ) (xs : List X) → bound xs ≤ b → AllByRecursion (λ x. key x < b) xs
  below_bound b [] h = tt
  below_bound b (x ∷ xs) h = (omega (arith, h), below_bound b xs (omega (arith, h)))

  -- where keys rise, what there is with a key is one element at most
  none_first : (x : X) (xs : List X) → AllByRecursion (λ k. nat_cmp (key x) k ≡ Less) (map key xs) → at (key x) xs ≡ 0
  none_first x [] h = refl
  none_first x (y ∷ ys) h =
      at-cons (key x) y ys ∙ ap₂ ◌+◌ (other h.0) (none_first x ys h.1)
    where
      other : nat_cmp (key x) (key y) ≡ Less → one_at (key y) (weight y) (key x) ≡ 0
      other h = grind (arith, nat_tests, h)

  abbrev pub weighed : Option X → ℕ
  weighed None = 0
  weighed (Some x) = weight x

  abbrev pub found : ℕ → List X → ℕ
  found k xs = weighed (find (λ x. key x == k) xs)

  pub at-rising : (k : ℕ) (xs : List X) → IsStrictlySortedBy nat_cmp (map key xs) → at k xs ≡ found k xs
  unfolding IsStrictlySortedBy
  at-rising k [] r = refl
  at-rising k (x ∷ xs) r = at-cons k x xs ∙ by (key x == k) refl (at-rising k xs r.1)
    where
      none_here : (key x == k) ≡ true → at k xs ≡ 0
      none_here e = ap (λ i. at i xs) (sym (same e)) ∙ none_first x xs r.0
        where
          same : (key x == k) ≡ true → key x ≡ k
          same e = grind (arith, nat_tests, e)

      by : (t : Bool) → (key x == k) ≡ t → at k xs ≡ found k xs → cond t (weight x) 0 + at k xs ≡ weighed (cond t (Some x) (find (λ x. key x == k) xs))
      by true e h = omega (arith, none_here e)
      by false e h = zero-add (at k xs) ∙ h

-- so it is for ids themselves
at-ids : (h : ℕ → ℕ) (k : ℕ) (ids : List ℕ) → IsStrictlySortedBy nat_cmp ids → at (λ id. id) h k ids ≡ cond (has_id ids k) (h k) 0
at-ids h k ids r = at-rising (λ id. id) h k ids (rises ids r) ∙ known ids
  where
    same_ids : (is : List ℕ) → map (λ id. id) is ≡ is
    same_ids [] = refl
    same_ids (i ∷ is) = ap (◌∷◌ i) (same_ids is)

    rises : (is : List ℕ) → IsStrictlySortedBy nat_cmp is → IsStrictlySortedBy nat_cmp (map (λ id. id) is)
    rises is r = subst (IsStrictlySortedBy nat_cmp) (sym (same_ids is)) r

    by : (i : ℕ) (is : List ℕ) (t : Bool) → (i == k) ≡ t → found (λ id. id) h k is ≡ cond (has_id is k) (h k) 0
        → weighed (λ id. id) h (cond t (Some i) (find (λ id. id == k) is)) ≡ cond (t || has_id is k) (h k) 0
    by i is true e known = ap h (same e)
      where
        same : (i == k) ≡ true → i ≡ k
        same e = grind (arith, nat_tests, e)
    by i is false e known = known

    known : (is : List ℕ) → found (λ id. id) h k is ≡ cond (has_id is k) (h k) 0
    known [] = refl
    known (i ∷ is) = by i is (i == k) refl (known is)

module _ {X Y : Type 0} (key : X → ℕ) (weight : X → ℕ) (key' : Y → ℕ) (weight' : Y → ℕ) where
  -- two lists that come to the same at all but these ids
  pub same_but_at : (xs : List X) (ys : List Y) (ids : List ℕ) → IsStrictlySortedBy nat_cmp ids
      → ((k : ℕ) → has_id ids k ≡ false → at key weight k xs ≡ at key' weight' k ys)
      → sum_by weight xs + sum_by (λ id. at key' weight' id ys) ids ≡ sum_by weight' ys + sum_by (λ id. at key weight id xs) ids
  same_but_at xs ys ids r same =
      let a : ℕ → ℕ = λ k. at key weight k xs in
      let c : ℕ → ℕ = λ k. at key' weight' k ys in
      let b : ℕ = bound key weight xs + (bound key' weight' ys + bound (λ id. id) c ids) in
      let total = by_keys key weight b xs (below_bound key weight b xs (omega arith)) in
      let total' = by_keys key' weight' b ys (below_bound key' weight' b ys (omega arith)) in
      let among : (h : ℕ → ℕ) → sum_by h ids ≡ sum_below b (λ k. cond (has_id ids k) (h k) 0) =
      λ h. by_keys (λ id. id) h b ids (below_bound (λ id. id) h b ids (omega arith)) ∙ below-same b _ _ (λ k. at-ids h k ids r) in
      ap₂ ◌+◌ total (among c)
      ∙ (sym (below-both b a (λ k. cond (has_id ids k) (c k) 0))
      ∙ (below-same b _ _ (λ k. by k (has_id ids k) refl)
      ∙ (below-both b c (λ k. cond (has_id ids k) (a k) 0) ∙ sym (ap₂ ◌+◌ total' (among a)))))
    where
      by : (k : ℕ) (t : Bool) → has_id ids k ≡ t
          → at key weight k xs + cond t (at key' weight' k ys) 0 ≡ at key' weight' k ys + cond t (at key weight k xs) 0
      by k true e = omega arith
      by k false e = ap (λ n. n + 0) (same k e)

-- two pairs of lists that together come to the same at all but these ids
module _ {X : Type 0} (key : X → ℕ) (weight : X → ℕ) where
  pub same_pairs_but_at : (xs xs' ys ys' : List X) (ids : List ℕ) → IsStrictlySortedBy nat_cmp ids
      → ((k : ℕ) → has_id ids k ≡ false → at key weight k xs + at key weight k ys' ≡ at key weight k xs' + at key weight k ys)
      → (sum_by weight xs + sum_by weight ys') + (sum_by (λ id. at key weight id xs') ids + sum_by (λ id. at key weight id ys) ids)
      ≡ (sum_by weight xs' + sum_by weight ys) + (sum_by (λ id. at key weight id xs) ids + sum_by (λ id. at key weight id ys') ids)
  same_pairs_but_at xs xs' ys ys' ids r same =
      ap₂ ◌+◌ (ap₂ ◌+◌ (all xs (omega arith)) (all ys' (omega arith))) (ap₂ ◌+◌ (among xs' (omega arith)) (among ys (omega arith)))
      ∙ (both (λ k. at_key k xs) (λ k. at_key k ys') (λ k. among_key k xs') (λ k. among_key k ys)
      ∙ (below-same b _ _ (λ k. by k (has_id ids k) refl)
      ∙ (sym (both (λ k. at_key k xs') (λ k. at_key k ys) (λ k. among_key k xs) (λ k. among_key k ys'))
      ∙ sym (ap₂ ◌+◌ (ap₂ ◌+◌ (all xs' (omega arith)) (all ys (omega arith))) (ap₂ ◌+◌ (among xs (omega arith)) (among ys' (omega arith)))))))
    where
      at_key : ℕ → List X → ℕ
      at_key k l = at key weight k l

      among_key : ℕ → List X → ℕ
      among_key k l = cond (has_id ids k) (at key weight k l) 0

      high : List X → ℕ
      high l = bound key weight l + bound (λ id. id) (λ k. at key weight k l) ids

      b : ℕ
      b = (high xs + high xs') + (high ys + high ys')

      all : (l : List X) → bound key weight l ≤ b → sum_by weight l ≡ sum_below b (λ k. at_key k l)
      all l h = by_keys key weight b l (below_bound key weight b l h)

      among : (l : List X) → bound (λ id. id) (λ k. at key weight k l) ids ≤ b → sum_by (λ id. at key weight id l) ids ≡ sum_below b (λ k. among_key k l)
      among l h =
          by_keys (λ id. id) (λ k. at key weight k l) b ids (below_bound (λ id. id) (λ k. at key weight k l) b ids h)
          ∙ below-same b _ _ (λ k. at-ids (λ k. at key weight k l) k ids r)

      both : (f g h i : ℕ → ℕ) → (sum_below b f + sum_below b g) + (sum_below b h + sum_below b i) ≡ sum_below b (λ k. (f k + g k) + (h k + i k))
      both f g h i =
          ap₂ ◌+◌ (sym (below-both b f g)) (sym (below-both b h i)) ∙ sym (below-both b (λ k. f k + g k) (λ k. h k + i k))

      by : (k : ℕ) (t : Bool) → has_id ids k ≡ t
          → (at_key k xs + at_key k ys') + (among_key k xs' + among_key k ys) ≡ (at_key k xs' + at_key k ys) + (among_key k xs + among_key k ys')
      by k t e = ap (λ (t : Bool). (at key weight k xs + at key weight k ys') + (cond t (at key weight k xs') 0 + cond t (at key weight k ys) 0)) e
          ∙ (turn t e
          ∙ sym (ap (λ (t : Bool). (at key weight k xs' + at key weight k ys) + (cond t (at key weight k xs) 0 + cond t (at key weight k ys') 0)) e))
        where
          turn : (t : Bool) → has_id ids k ≡ t
              → (at key weight k xs + at key weight k ys') + (cond t (at key weight k xs') 0 + cond t (at key weight k ys) 0)
              ≡ (at key weight k xs' + at key weight k ys) + (cond t (at key weight k xs) 0 + cond t (at key weight k ys') 0)
          turn true e = omega arith
          turn false e = ap (λ n. n + (0 + 0)) (same k e)

-- sums of the same
pub same_sums : (k f : ℕ → ℕ) (ids : List ℕ) → ((id : ℕ) → k id ≡ f id) → sum_by k ids ≡ sum_by f ids
same_sums k f [] e = refl
same_sums k f (i ∷ ids) e = sum_by-cons k i ids ∙ (ap₂ ◌+◌ (e i) (same_sums k f ids e) ∙ sym (sum_by-cons f i ids))

pub same_sums_in : (k f : ℕ → ℕ) (ids : List ℕ) → ((id : ℕ) → has_id ids id ≡ true → k id ≡ f id) → sum_by k ids ≡ sum_by f ids
same_sums_in k f [] e = refl
same_sums_in k f (i ∷ ids) e =
    sum_by-cons k i ids
    ∙ (ap₂ ◌+◌ (e i (first i ids)) (same_sums_in k f ids (λ id h. e id (later i ids id h))) ∙ sym (sum_by-cons f i ids))
  where
    first : (i : ℕ) (ids : List ℕ) → has_id (i ∷ ids) i ≡ true
    first i ids = ap (λ (b : Bool). b || has_id ids i) (let e : (i == i) ≡ true = grind (arith, nat_tests) in e)

    later : (i : ℕ) (ids : List ℕ) (id : ℕ) → has_id ids id ≡ true → has_id (i ∷ ids) id ≡ true
    later i ids id h = ap (λ (b : Bool). (i == id) || b) h ∙ by (i == id)
      where
        by : (b : Bool) → (b || true) ≡ true
        by true = refl
        by false = refl
