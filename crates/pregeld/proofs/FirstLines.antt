-- The first line of a text, and what is left after it.
use Rattle.std.proofs.Common.{◌≡◌, ◌≢◌, ℕ, ◌-◌, ◌==◌, true, false, List, [], ◌∷◌, ◌++◌, length, take, Some, refl, ap, sym, ◌∙◌, arith, All, subst}
use Rattle.std.proofs.Common.{suc, slice_get}
use Rattle.std.specs.Io.{StopsAt}
use Rattle.std.specs.Io.BufRead.{drop_through}
use Rattle.std.proofs.lemmas.Bool.Decides.{nat_tests}
use Rattle.std.proofs.lemmas.Grind.{common_steps}
use Rattle.std.proofs.lemmas.List.Elements.{All-head, All-tail}

not_feed : (b : ℕ) → b ≢ 10 → (b == 10) ≡ false
not_feed b other = grind (arith, nat_tests)

one_less : (b : ℕ) (front : List ℕ) → length (b ∷ front) - 1 ≡ length front
one_less b front = omega arith

-- the first of two bytes or more is no line feed, and only the last of those after it may be one
stops_later : (b c : ℕ) (front : List ℕ) → StopsAt (b ∷ c ∷ front) 10 → (b ≢ 10) × StopsAt (c ∷ front) 10
stops_later b c front stops =
    let P : ℕ → Type 0 = λ x. x ≢ 10 in
    let size : length (b ∷ c ∷ front) - 1 ≡ suc (length front) = omega arith in
    let all : All P (b ∷ take (length front) (c ∷ front)) = subst (λ n. All P (take n (b ∷ c ∷ front))) size stops in (
      All-head P b (take (length front) (c ∷ front)) all,
      subst (λ n. All P (take n (c ∷ front))) (sym (one_less c front))
          (All-tail P b (take (length front) (c ∷ front)) all),
    )

-- what ends a text ends what comes after its first byte
last_later : (b c : ℕ) (front : List ℕ) → slice_get (b ∷ c ∷ front) (length (b ∷ c ∷ front) - 1) ≡ slice_get (c ∷ front) (length (c ∷ front) - 1)
last_later b c front = grind (arith, common_steps)

-- past a front that ends at its first line feed
pub past_feed : (front rest : List ℕ) → StopsAt front 10 → slice_get front (length front - 1) ≡ Some 10 → drop_through 10 (front ++ rest) ≡ rest
past_feed [] rest stops last = absurd cc
past_feed (b ∷ []) rest stops last = let feed : (b == 10) ≡ true = grind (arith, nat_tests, common_steps) in rw feed refl
past_feed (b ∷ c ∷ front) rest stops last =
    let later = stops_later b c front stops in
    rw (not_feed b later.0) (past_feed (c ∷ front) rest later.1 (sym (last_later b c front) ∙ last))

-- past a front that has none
pub past_no_feed : (front rest : List ℕ) → StopsAt front 10 → slice_get front (length front - 1) ≢ Some 10 → drop_through 10 (front ++ rest)
    ≡ drop_through 10 rest
past_no_feed [] rest stops other = refl
past_no_feed (b ∷ []) rest stops other = rw (not_feed b (λ e. other (ap Some e))) refl
past_no_feed (b ∷ c ∷ front) rest stops other =
    let later = stops_later b c front stops in
    rw (not_feed b later.0) (past_no_feed (c ∷ front) rest later.1 (λ e. other (last_later b c front ∙ e)))
