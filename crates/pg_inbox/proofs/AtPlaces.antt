-- Places that get values, lose them, and become more.
use Rattle.std.proofs.Common.{◌≡◌, ℕ, zero, suc, ◌<◌, ◌≤◌, ◌==◌, Bool, true, false, cond, List, [], ◌∷◌}
use Rattle.std.proofs.Common.{◌++◌, length, get_or, set, Option, None, refl, sym, ap, ◌∙◌, arith}
use Rattle.std.proofs.lemmas.Bool.Decides.{nat_tests}
use Rattle.pg_inbox.specs.SparseVec.{value_in}

sucs : (a b : ℕ) → (suc a == suc b) ≡ (a == b)
sucs a b = grind (arith, nat_tests)

zero_suc : (a : ℕ) → (zero == suc a) ≡ false
zero_suc a = grind (arith, nat_tests)

suc_zero : (a : ℕ) → (suc a == zero) ≡ false
suc_zero a = grind (arith, nat_tests)

module _ {X : Type 0} where
  pub value_in-past : (place : ℕ) (xs : List (Option X)) → length xs ≤ place → value_in place xs ≡ None
  value_in-past place [] h = refl
  value_in-past zero (x ∷ xs) h = absurd (omega arith)
  value_in-past (suc place) (x ∷ xs) h = value_in-past place xs (omega arith)

  pub value_in-get : (place : ℕ) (xs : List (Option X)) (d : Option X) → place < length xs → get_or xs place d ≡ value_in place xs
  value_in-get place [] d h = absurd (omega arith)
  value_in-get zero (x ∷ xs) d h = refl
  value_in-get (suc place) (x ∷ xs) d h = value_in-get place xs d (omega arith)

  pub value_in-push : (place : ℕ) (xs : List (Option X)) → value_in place (xs ++ None ∷ []) ≡ value_in place xs
  value_in-push zero [] = refl
  value_in-push (suc place) [] = refl
  value_in-push zero (x ∷ xs) = refl
  value_in-push (suc place) (x ∷ xs) = value_in-push place xs

  pub value_in-set : (place other : ℕ) (xs : List (Option X)) (v : Option X) → place < length xs
      → value_in other (set xs place v) ≡ cond (place == other) v (value_in other xs)
  value_in-set place other [] v h = absurd (omega arith)
  value_in-set zero zero (x ∷ xs) v h = refl
  value_in-set zero (suc other) (x ∷ xs) v h = sym (ap (λ b. cond b v (value_in other xs)) (zero_suc other))
  value_in-set (suc place) zero (x ∷ xs) v h = sym (ap (λ b. cond b v x) (suc_zero place))
  value_in-set (suc place) (suc other) (x ∷ xs) v h =
      value_in-set place other xs v (omega arith) ∙ sym (ap (λ b. cond b v (value_in other xs)) (sucs place other))

  -- to take away what isn't there changes nothing
  pub value_in-none : (place other : ℕ) (xs : List (Option X)) → length xs ≤ place
      → value_in other xs ≡ cond (place == other) None (value_in other xs)
  value_in-none place other xs h = by (place == other) refl
    where
      same : (a b : ℕ) → (a == b) ≡ true → a ≡ b
      same a b e = grind (arith, nat_tests)

      by : (b : Bool) → (place == other) ≡ b → value_in other xs ≡ cond b None (value_in other xs)
      by true e = ap (λ q. value_in q xs) (sym (same place other e)) ∙ value_in-past place xs h
      by false e = refl
