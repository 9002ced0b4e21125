-- Lists made item by item, and counts that stop.
use Rattle.std.proofs.Common.{◌≡◌, ℕ, ◌+◌, Bool, true, cond, filter, List, [], ◌∷◌, ◌++◌, refl, ap, sym, ◌∙◌}
use Rattle.std.proofs.Common.{arith, append_assoc, flat_map, count_by, suc, zero, ◌<◌, get_or, length, take, Some}
use Rattle.std.specs.List.{AllByRecursion, range_with_len, slice_get}
use Rattle.std.proofs.lemmas.List.{append-nil, take_more}
use Rattle.std.proofs.lemmas.List.Sums.{sum_by_push}
use Rattle.pg_model.specs.Superstep.{capped}

module _ {X Y : Type 0} where
  pub flat_map-push : (f : X → List Y) (xs : List X) (x : X) → flat_map f (xs ++ x ∷ []) ≡ flat_map f xs ++ f x
  flat_map-push f [] x = append-nil (f x)
  flat_map-push f (y ∷ ys) x = ap (λ l. f y ++ l) (flat_map-push f ys x) ∙ sym (append_assoc (f y) (flat_map f ys) (f x))

module _ {X : Type 0} where
  pub one_taken : (xs : List X) (i : ℕ) {x : X} → i < length xs → x ≡ get_or xs i x → take i xs ++ x ∷ [] ≡ take (i + 1) xs
  one_taken xs i {x} within is = ap (λ y. take i xs ++ y ∷ []) is ∙ sym (take_more xs i x within)

  pub count_by-push : (p : X → Bool) (xs : List X) (x : X) → count_by p (xs ++ x ∷ []) ≡ count_by p xs + cond (p x) 1 0
  count_by-push p xs x = sum_by_push (λ y. cond (p y) 1 0) xs x

  -- what was gone through, where nothing is left
  pub all_yielded : (yielded rest all : List X) → yielded ++ rest ≡ all → rest ≡ [] → yielded ≡ all
  all_yielded yielded rest all whole none = sym (append-nil yielded) ∙ (ap (λ l. yielded ++ l) (sym none) ∙ whole)

pub more_calls : (m a b : ℕ) → capped (capped (m + a) + b) ≡ capped (m + (a + b))
more_calls m a b = omega arith

module _ {Y : Type 0} (f : ℕ → List Y) where
  pub flat_map-range_from : (a n : ℕ) → flat_map f (range_with_len a (n + 1)) ≡ flat_map f (range_with_len a n) ++ f (a + n)
  flat_map-range_from a zero = append-nil (f a) ∙ ap f (let e : a ≡ a + 0 = omega arith in e)
  flat_map-range_from a (suc n) =
      ap (λ k. flat_map f (range_with_len a k)) (let e : suc n + 1 ≡ suc (n + 1) = omega arith in e)
      ∙ ap (λ l. f a ++ l) (flat_map-range_from (a + 1) n)
      ∙ (sym (append_assoc (f a) (flat_map f (range_with_len (a + 1) n)) (f (a + 1 + n)))
      ∙ ap (λ k. (f a ++ flat_map f (range_with_len (a + 1) n)) ++ f k) (let e : a + 1 + n ≡ a + suc n = omega arith in e))

  -- one number more
  pub flat_map-range : (n : ℕ) → flat_map f (range_with_len 0 (n + 1)) ≡ flat_map f (range_with_len 0 n) ++ f n
  flat_map-range n = flat_map-range_from 0 n ∙ ap (λ k. flat_map f (range_with_len 0 n) ++ f k) (let e : 0 + n ≡ n = omega arith in e)

module _ {X : Type 0} where
  -- what stands before, and what was pushed
  pub slice_get-before : (xs : List X) (y : X) (q : ℕ) → q < length xs → slice_get (xs ++ y ∷ []) q ≡ slice_get xs q
  slice_get-before [] y q within = absurd (omega arith)
  slice_get-before (x ∷ xs) y zero within = refl
  slice_get-before (x ∷ xs) y (suc q) within = slice_get-before xs y q (omega arith)

  pub slice_get-last : (xs : List X) (y : X) → slice_get (xs ++ y ∷ []) (length xs) ≡ Some y
  slice_get-last [] y = refl
  slice_get-last (x ∷ xs) y = slice_get-last xs y

-- where all pass a test, nothing is left out
pub all_picked : {X : Type 0} (p : X → Bool) (xs : List X) → AllByRecursion (λ x. p x ≡ true) xs → filter p xs ≡ xs
all_picked p [] h = refl
all_picked p (x ∷ xs) h = ap (λ (b : Bool). cond b (x ∷ filter p xs) (filter p xs)) h.0 ∙ ap (λ l. x ∷ l) (all_picked p xs h.1)
