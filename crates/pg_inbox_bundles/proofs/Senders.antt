-- Lists by a number are told by what they have of each number; and what `in_order` makes of a list.
use Rattle.std.proofs.Common.{◌≡◌, ℕ, ◌+◌, zero, suc, drop, ◌<◌, ◌≤◌, ◌==◌, Bool, true, false, cond, List, [], ◌∷◌, length, get_or}
use Rattle.std.proofs.Common.{refl, sym, ap, ap₂, ◌∙◌, subst, arith, inl, inr, IsPermutation, filter, eq-eqb}
use Rattle.std.specs.List.{AllByRecursion}
use Rattle.std.proofs.lemmas.Bool.{cases_order, eqb-true}
use Rattle.std.proofs.lemmas.Bool.Decides.{nat_tests}
use Rattle.std.proofs.lemmas.List.Sorted.{IsPermutation-cons, IsPermutation-middle, IsPermutation-refl, IsPermutation-trans}
use Rattle.std.specs.Prelude.{nat_lt}
use Rattle.pg_map.proofs.Moved.{first_of_rest}
use Rattle.pg_model.proofs.LawsByNumber.{IsUp}
use Rattle.pg_inbox_bundles.specs.Ordered.{in_order, put}

apart : (a b : ℕ) → a < b → (b == a) ≡ false
apart a b h = grind (arith, nat_tests)

at_least : (a b : ℕ) → nat_lt a b ≡ true → a ≤ b
at_least a b h = grind (arith, nat_tests)

no_less : (a b : ℕ) → nat_lt a b ≡ false → b ≤ a
no_less a b h = grind (arith, nat_tests)

unlike : (a b : ℕ) → nat_lt a b ≡ true → (q : ℕ) → (a == q) ≡ true → (b == q) ≡ false
unlike a b h q e = grind (arith, nat_tests)

module _ {X : Type 0} where
  abbrev pub from : ℕ → List (ℕ × X) → List (ℕ × X)
  from q xs = filter (λ l. l.0 == q) xs

  abbrev Up : List (ℕ × X) → Type 0
  Up xs = IsUp (λ l. l.0) xs

  none_from : (q : ℕ) (xs : List (ℕ × X)) → AllByRecursion (λ y. q < y.0) xs → from q xs ≡ []
  none_from q [] h = refl
  none_from q (x ∷ xs) h = ap (λ b. cond b (x ∷ from q xs) (from q xs)) (apart q x.0 h.0) ∙ none_from q xs h.1

  higher : (q m : ℕ) (xs : List (ℕ × X)) → q < m → AllByRecursion (λ y. m ≤ y.0) xs → AllByRecursion (λ y. q < y.0) xs
  higher q m [] l h = tt
  higher q m (x ∷ xs) l h = (let k = h.0 in omega arith, higher q m xs l h.1)

  first_of : (x : ℕ × X) (xs : List (ℕ × X)) → from x.0 (x ∷ xs) ≡ x ∷ from x.0 xs
  first_of x xs = ap (λ b. cond b (x ∷ from x.0 xs) (from x.0 xs)) (eq-eqb x.0 x.0 refl)

  cons_not_nil : (x : ℕ × X) (xs : List (ℕ × X)) → x ∷ xs ≡ [] → ⊥
  cons_not_nil x xs h = cc

  heads_same : (x y : ℕ × X) (xs ys : List (ℕ × X)) → x ∷ xs ≡ y ∷ ys → x ≡ y
  heads_same x y xs ys h = cc

  tails_same : (x y : ℕ × X) (xs ys : List (ℕ × X)) → x ∷ xs ≡ y ∷ ys → xs ≡ ys
  tails_same x y xs ys h = cc

  -- lists by rising number are told by the elements of each number
  pub same_by_number : (xs ys : List (ℕ × X)) → Up xs → Up ys → ((q : ℕ) → from q xs ≡ from q ys) → xs ≡ ys
  same_by_number [] [] h k same = refl
  same_by_number [] (y ∷ ys) h k same = absurd (cons_not_nil y (from y.0 ys) (sym (same y.0 ∙ first_of y ys)))
  same_by_number (x ∷ xs) [] h k same = absurd (cons_not_nil x (from x.0 xs) (sym (first_of x xs) ∙ same x.0))
  same_by_number (x ∷ xs) (y ∷ ys) h k same =
      let at : x.0 ≡ y.0 =
      elim (cases_order x.0 y.0) [
        | inl e ↦ e
        | inr (inl less) ↦ absurd (cons_not_nil x (from x.0 xs) (sym (first_of x xs) ∙ (same x.0 ∙ none_from x.0 (y ∷ ys) (less, higher x.0 y.0 ys less k.0))))
        | inr (inr more) ↦ absurd (cons_not_nil y (from y.0 ys) (sym (first_of y ys) ∙ (sym (same y.0)
            ∙ none_from y.0 (x ∷ xs) (more, higher y.0 x.0 xs more h.0))))
      ] in
      let both : x ∷ from x.0 xs ≡ y ∷ from x.0 ys = sym (first_of x xs) ∙ (same x.0 ∙ (ap (λ q. from q (y ∷ ys)) at ∙ (first_of y ys
      ∙ ap (λ q. y ∷ from q ys) (sym at)))) in
      let head : x ≡ y = heads_same x y (from x.0 xs) (from x.0 ys) both in
      let tail : from x.0 xs ≡ from x.0 ys = tails_same x y (from x.0 xs) (from x.0 ys) both in
      ap₂ ◌∷◌ head (same_by_number xs ys h.1 k.1 (λ q. later at tail q (x.0 == q) refl))
    where
      later : x.0 ≡ y.0 → from x.0 xs ≡ from x.0 ys → (q : ℕ) (b : Bool) → (x.0 == q) ≡ b → from q xs ≡ from q ys
      later at tail q true e = let here : x.0 ≡ q = eqb-true x.0 q e in subst (λ n. from n xs ≡ from n ys) here tail
      later at tail q false e =
          ap (λ b. cond b (x ∷ from q xs) (from q xs)) (sym e) ∙ (same q ∙ ap (λ b. cond b (y ∷ from q ys) (from q ys)) (ap (λ n. n == q) (sym at) ∙ e))

  -- ---- a list in order

  put-permutation : (x : ℕ × X) (ys : List (ℕ × X)) → IsPermutation (x ∷ ys) (put x ys)
  put-permutation x [] = IsPermutation-refl (x ∷ [])
  put-permutation x (y ∷ ys) = by (nat_lt y.0 x.0) (put-permutation x ys)
    where
      by : (b : Bool) → IsPermutation (x ∷ ys) (put x ys) → IsPermutation (x ∷ y ∷ ys) (cond b (y ∷ put x ys) (x ∷ y ∷ ys))
      by true h = IsPermutation-trans _ _ _ (IsPermutation-middle (x ∷ []) y ys) (IsPermutation-cons y (x ∷ ys) (put x ys) h)
      by false h = IsPermutation-refl (x ∷ y ∷ ys)

  in_order-permutation : (xs : List (ℕ × X)) → IsPermutation xs (in_order xs)
  in_order-permutation [] = IsPermutation-refl []
  in_order-permutation (x ∷ xs) = IsPermutation-trans _ _ _ (IsPermutation-cons x xs (in_order xs) (in_order-permutation xs)) (put-permutation x (in_order xs))

  all-put : (P : ℕ × X → Type 0) (x : ℕ × X) (ys : List (ℕ × X)) → P x → AllByRecursion P ys → AllByRecursion P (put x ys)
  all-put P x [] p h = (p, tt)
  all-put P x (y ∷ ys) p h = by (nat_lt y.0 x.0) (all-put P x ys p h.1)
    where
      by : (b : Bool) → AllByRecursion P (put x ys) → AllByRecursion P (cond b (y ∷ put x ys) (x ∷ y ∷ ys))
      by true k = (h.0, k)
      by false k = (p, h)

  from_higher : (a b : ℕ) (xs : List (ℕ × X)) → a ≤ b → AllByRecursion (λ y. b ≤ y.0) xs → AllByRecursion (λ y. a ≤ y.0) xs
  from_higher a b [] l h = tt
  from_higher a b (x ∷ xs) l h = (let k = h.0 in omega arith, from_higher a b xs l h.1)

  put-up : (x : ℕ × X) (ys : List (ℕ × X)) → Up ys → Up (put x ys)
  put-up x [] h = (tt, tt)
  put-up x (y ∷ ys) h = by (nat_lt y.0 x.0) refl (put-up x ys h.1)
    where
      by : (b : Bool) → nat_lt y.0 x.0 ≡ b → Up (put x ys) → Up (cond b (y ∷ put x ys) (x ∷ y ∷ ys))
      by true e k = (all-put (λ z. y.0 ≤ z.0) x ys (at_least y.0 x.0 e) h.0, k)
      by false e k = let l = no_less y.0 x.0 e in ((l, from_higher x.0 y.0 ys l h.0), h)

  pub in_order-up : (xs : List (ℕ × X)) → Up (in_order xs)
  in_order-up [] = tt
  in_order-up (x ∷ xs) = put-up x (in_order xs) (in_order-up xs)

  put-from : (q : ℕ) (x : ℕ × X) (ys : List (ℕ × X)) → from q (put x ys) ≡ from q (x ∷ ys)
  put-from q x [] = refl
  put-from q x (y ∷ ys) = by (nat_lt y.0 x.0) refl (put-from q x ys)
    where
      swap_first : (a b : Bool) → (a ≡ true → b ≡ false) → (l : List (ℕ × X))
          → cond a (y ∷ cond b (x ∷ l) l) (cond b (x ∷ l) l) ≡ cond b (x ∷ cond a (y ∷ l) l) (cond a (y ∷ l) l)
      swap_first true true h l = absurd (let k = h refl in cc)
      swap_first true false h l = refl
      swap_first false b h l = refl

      by : (b : Bool) → nat_lt y.0 x.0 ≡ b → from q (put x ys) ≡ from q (x ∷ ys) → from q (cond b (y ∷ put x ys) (x ∷ y ∷ ys)) ≡ from q (x ∷ y ∷ ys)
      by true e h = ap (λ l. cond (y.0 == q) (y ∷ l) l) h ∙ swap_first (y.0 == q) (x.0 == q) (λ k. unlike y.0 x.0 e q k) (from q ys)
      by false e h = refl

  -- ---- a list that is in order already

  -- before an element that isn't below it
  pub up_step : (l : List (ℕ × X)) (q p : ℕ) {x y : ℕ × X} → q + 1 ≡ p → p < length l → x ≡ get_or l q x → y ≡ get_or l p y → x.0 ≤ y.0
      → Up (drop p l) → Up (drop q l)
  up_step l q p {x} {y} next within first second le up =
      let rest = drop (p + 1) l in
      let two : drop p l ≡ y ∷ rest = first_of_rest l p within second in
      let all : drop q l ≡ x ∷ y ∷ rest = first_of_rest l q (omega (arith, next, within)) first ∙ ap (λ n. x ∷ drop n l) next ∙ ap (λ k. x ∷ k) two in
      let above = subst Up two up in
      subst Up (sym all) ((le, from_higher x.0 y.0 rest le above.0), above)

  pub up_short : (l : List (ℕ × X)) (n : ℕ) → length l ≤ n + 1 → Up (drop n l)
  up_short [] zero h = tt
  up_short [] (suc n) h = tt
  up_short (x ∷ []) zero h = (tt, tt)
  up_short (x ∷ y ∷ l) zero h = absurd (omega arith)
  up_short (x ∷ l) (suc n) h = up_short l n (omega arith)

  pub in_order-from : (q : ℕ) (xs : List (ℕ × X)) → from q (in_order xs) ≡ from q xs
  in_order-from q [] = refl
  in_order-from q (x ∷ xs) = put-from q x (in_order xs) ∙ ap (λ l. cond (x.0 == q) (x ∷ l) l) (in_order-from q xs)

  -- a list by rising number has the elements of any list that has the same of each number
  pub permutation_by_number : (xs ys : List (ℕ × X)) → Up ys → ((q : ℕ) → from q ys ≡ from q xs) → IsPermutation xs ys
  permutation_by_number xs ys up same =
      subst (λ l. IsPermutation xs l) (same_by_number (in_order xs) ys (in_order-up xs) up (λ q. in_order-from q xs ∙ sym (same q))) (in_order-permutation xs)

  pub up_in_order : (xs : List (ℕ × X)) → Up xs → in_order xs ≡ xs
  up_in_order xs up = same_by_number (in_order xs) xs (in_order-up xs) up (λ q. in_order-from q xs)
