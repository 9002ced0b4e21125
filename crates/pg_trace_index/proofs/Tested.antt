-- Lists whose length was tested.
use Rattle.std.proofs.Common.{◌≡◌, ℕ, ◌==◌, true, false, length, List, [], ◌∷◌, refl, ap, ◌∙◌, arith, true≢false}
use Rattle.std.proofs.lemmas.Bool.Decides.{nat_tests}

pub nil_from_test : {X : Type 0} (l : List X) (n : ℕ) → n ≡ length l → true ≡ (n == 0) → l ≡ []
nil_from_test [] n len none = refl
nil_from_test (x ∷ l) n len none =
    let some : (length (x ∷ l) == 0) ≡ false = grind (arith, nat_tests) in
    absurd (true≢false (none ∙ ap (λ k. k == 0) len ∙ some))
