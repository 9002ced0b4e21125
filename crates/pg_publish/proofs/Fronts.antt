-- Beginnings of one list.
use Rattle.std.proofs.Common.{◌≡◌, ℕ, zero, suc, ◌-◌, ◌<◌, ◌≤◌, nat_le, Bool, true, false, MatchBool, List, [], ◌∷◌, ◌++◌, length, Some, slice_get}
use Rattle.std.proofs.Common.{refl, ap, sym, ◌∙◌, arith, append_assoc, length-append}
use mathlib.Core.List.{IsPrefix}
use Rattle.std.proofs.lemmas.Bool.Decides.{nat_tests}
use Rattle.pg_publish.specs.History.{last_of, GoesFurther}

module _ {E : Type 0} where
  -- each list begins with itself
  pub prefix_self : (xs : List E) → IsPrefix xs xs
  prefix_self [] = ([], refl)
  prefix_self (x ∷ xs) = (let rest = prefix_self xs in rest.0, ap (λ ys. x ∷ ys) (prefix_self xs).1)

  pub prefix_trans : (xs ys zs : List E) → IsPrefix xs ys → IsPrefix ys zs → IsPrefix xs zs
  prefix_trans xs ys zs p q = (p.0 ++ q.0, sym (append_assoc xs p.0 q.0) ∙ (ap (λ w. w ++ q.0) p.1 ∙ q.1))

  -- a list begins what it goes on to
  pub prefix_append : (xs more : List E) → IsPrefix xs (xs ++ more)
  prefix_append xs more = (more, refl)

  pub prefix_length : (xs ys : List E) → IsPrefix xs ys → length xs ≤ length ys
  prefix_length xs ys p = omega (arith, sym (ap length p.1) ∙ length-append xs p.0)

  -- what stands in a beginning stands in the whole, at the same place
  pub prefix_get : (xs ys : List E) (k : ℕ) (x : E) → IsPrefix xs ys → slice_get xs k ≡ Some x → slice_get ys k ≡ Some x
  prefix_get [] ys k x p h = absurd cc
  prefix_get (y ∷ xs) [] k x p h = absurd (cc (p.1))
  prefix_get (y ∷ xs) (z ∷ ys) zero x p h = cc (p.1, h)
  prefix_get (y ∷ xs) (z ∷ ys) (suc k) x p h = prefix_get xs ys k x (p.0, cc (p.1)) h

  -- of two beginnings of one list the shorter begins the longer
  pub prefix_shorter : (xs ys zs : List E) → IsPrefix xs zs → IsPrefix ys zs → length xs ≤ length ys → IsPrefix xs ys
  prefix_shorter [] ys zs p q le = (ys, refl)
  prefix_shorter (x ∷ xs) [] zs p q le = absurd (omega arith)
  prefix_shorter (x ∷ xs) (y ∷ ys) [] p q le = absurd (cc (p.1))
  prefix_shorter (x ∷ xs) (y ∷ ys) (z ∷ zs) p q le =
      let heads : x ≡ y = cc (p.1, q.1) in
      let rest = prefix_shorter xs ys zs (p.0, cc (p.1)) (q.0, cc (q.1)) (omega arith) in
      (rest.0, cc (heads, rest.1))

  -- a beginning as long as the whole is the whole
  pub prefix_whole : (xs ys : List E) → IsPrefix xs ys → length ys ≤ length xs → xs ≡ ys
  prefix_whole [] [] p le = refl
  prefix_whole [] (y ∷ ys) p le = absurd (omega arith)
  prefix_whole (x ∷ xs) [] p le = absurd (cc (p.1))
  prefix_whole (x ∷ xs) (y ∷ ys) p le =
      let rest = prefix_whole xs ys (p.0, cc (p.1)) (omega arith) in cc (p.1, rest)

  slice_get-append : (xs : List E) (x : E) → slice_get (xs ++ x ∷ []) (length xs) ≡ Some x
  slice_get-append [] x = refl
  slice_get-append (y ∷ xs) x = slice_get-append xs x

  -- what was added last is the last entry
  pub last_of-append : (xs : List E) (x : E) → last_of (xs ++ x ∷ []) ≡ Some x
  last_of-append xs x =
      let place : length (xs ++ x ∷ []) - 1 ≡ length xs = omega (arith, length-append xs (x ∷ [])) in
      ap (λ k. slice_get (xs ++ x ∷ []) k) place ∙ slice_get-append xs x

  begins_if : (xs ys both : List E) (m n : ℕ) → m ≡ length xs → n ≡ length ys
      → IsPrefix xs both → IsPrefix ys both → (b : Bool) → nat_le m n ≡ b → MatchBool b (IsPrefix xs ys) (GoesFurther ys xs)
  begins_if xs ys both m n first second p q true is =
      let le : m ≤ n = grind (arith, nat_tests) in
      prefix_shorter xs ys both p q (omega arith)
  begins_if xs ys both m n first second p q false is =
      let gt : n < m = grind (arith, nat_tests) in
      (prefix_shorter ys xs both q p (omega arith), omega arith)

  -- which of two beginnings of one list begins the other, by their lengths
  pub begins_by_length : (xs ys both : List E) (m n : ℕ) → m ≡ length xs → n ≡ length ys
      → IsPrefix xs both → IsPrefix ys both → MatchBool (nat_le m n) (IsPrefix xs ys) (GoesFurther ys xs)
  begins_by_length xs ys both m n first second p q = begins_if xs ys both m n first second p q (nat_le m n) refl
