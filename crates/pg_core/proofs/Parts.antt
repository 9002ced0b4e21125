-- What stands at the place of a partition, and what is shown in a superstep.
use Rattle.std.proofs.Common.{◌≡◌, ℕ, zero, suc, ◌+◌, ◌<◌, Bool, true, false, cond, List, [], ◌∷◌, ◌++◌, length, map}
use Rattle.std.proofs.Common.{get_or, filter, Option, None, Some, is_some, refl, ap, sym, ◌∙◌, arith, inl, inr}
use Rattle.std.specs.List.{range_with_len, slice_get}
use Rattle.std.specs.Option.{IsSome}
use Rattle.std.proofs.lemmas.Bool.{cases_lt, true≢false}
use Rattle.std.proofs.lemmas.List.{get_or_default, get_or_past, map-append, map-id}
use Rattle.std.proofs.lemmas.List.Elements.{filter-append}
use Rattle.std.proofs.lemmas.List.FromFn.{get_or-map-range_with_len, map-range_with_len_more}

-- a place at which something is
pub some_inside : {X : Type 0} (xs : List (Option X)) (p : ℕ) → IsSome (get_or xs p None) → p < length xs
some_inside xs p some =
    elim (cases_lt p (length xs)) [
      | inl less ↦ less
      | inr more ↦ absurd (true≢false (sym some ∙ ap is_some (get_or_past xs p None more)))
    ]

-- what was read there
pub here_is : {X : Type 0} (xs : List (Option X)) (p : ℕ) (read : Option X) (x : X) → IsSome (get_or xs p None) → read ≡ get_or xs p read
    → read ≡ Some x → get_or xs p None ≡ Some x
here_is xs p read x some at is =
    get_or_default xs p None read (some_inside xs p some) ∙ (sym at ∙ is)

-- what is read of a list that has a value of each number below n
pub made_at : {X : Type 0} (made : ℕ → X) (xs : List X) (n k : ℕ) (x : X) → xs ≡ map made (range_with_len 0 n) → k < n → x ≡ get_or xs k x → x ≡ made k
made_at made xs n k x is within at =
    let none : 0 + k ≡ k = omega arith in
    at ∙ (ap (λ xs. get_or xs k x) is ∙ get_or-map-range_with_len made 0 n k k x within none)

-- what is made of the numbers below n that pass a test, and of one number more
pub listed_more : {X : Type 0} (test : ℕ → Bool) (made : ℕ → X) (n : ℕ) (before after : List X)
    → before ≡ map made (filter test (range_with_len 0 n)) → after ≡ before ++ cond (test n) (made n ∷ []) []
    → after ≡ map made (filter test (range_with_len 0 (n + 1)))
listed_more test made n before after so_far pushed =
    let range : List ℕ = range_with_len 0 n in
    let none : 0 + n ≡ n = omega arith in
    let more : range_with_len 0 (n + 1) ≡ range ++ n ∷ [] =
    sym (map-id _) ∙ (map-range_with_len_more (λ (k : ℕ). k) 0 n n none ∙ ap (λ l. l ++ n ∷ []) (map-id range)) in
    let last : map made (filter test (n ∷ [])) ≡ cond (test n) (made n ∷ []) [] =
    (elim (test n) as (λ b. map made (cond b (n ∷ []) []) ≡ cond b (made n ∷ []) []) [ true ↦ refl | false ↦ refl ]) in
    pushed ∙ ap (λ l. l ++ cond (test n) (made n ∷ []) []) so_far
    ∙ sym (ap (λ l. map made (filter test l)) more ∙ (ap (map made) (filter-append test range (n ∷ [])) ∙
    (map-append made (filter test range) (filter test (n ∷ [])) ∙ ap (λ l. map made (filter test range) ++ l) last)))

-- the value of a number below n among those of all of them
slice_get-range : {X : Type 0} (made : ℕ → X) (a n k : ℕ) → k < n → slice_get (map made (range_with_len a n)) k ≡ Some (made (a + k))
slice_get-range made a zero k within = absurd (omega arith)
slice_get-range made a (suc n) zero within = ap (λ (i : ℕ). Some (made i)) (let e : a ≡ a + 0 = omega arith in e)
slice_get-range made a (suc n) (suc k) within =
    slice_get-range made (a + 1) n k (omega arith) ∙ ap (λ (i : ℕ). Some (made i)) (let e : a + 1 + k ≡ a + suc k = omega arith in e)

pub slice_get-made : {X : Type 0} (made : ℕ → X) (n k : ℕ) → k < n → slice_get (map made (range_with_len 0 n)) k ≡ Some (made k)
slice_get-made made n k within = slice_get-range made 0 n k within ∙ ap (λ (i : ℕ). Some (made i)) (let e : 0 + k ≡ k = omega arith in e)
