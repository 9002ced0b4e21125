-- Lists of one list of one entry.
use Rattle.std.proofs.Common.{◌≡◌, ℕ, List, [], ◌∷◌, ◌++◌, sym, ap, subst, ◌∙◌}
use Rattle.std.specs.List.{AllByRecursion}
use Rattle.std.specs.List.Sorted.{IsStrictlySortedBy}
use Rattle.std.specs.Map.{keys_of}
use Rattle.std.specs.Ordering.{nat_cmp}

-- their ids rise
pub of_one : {X L : Type 0} (items : L → List (ℕ × X)) (all before : List L) (l : L) (first : List (ℕ × X)) (e : ℕ × X) → before ≡ []
    → all ≡ before ++ l ∷ [] → first ≡ [] → items l ≡ first ++ e ∷ []
    → AllByRecursion (λ l. IsStrictlySortedBy nat_cmp (keys_of (items l))) all
unfolding IsStrictlySortedBy
of_one {X} {L} items all before l first e none is empty one =
    let rises : IsStrictlySortedBy nat_cmp (keys_of (items l)) =
    subst (λ (ys : List (ℕ × X)). IsStrictlySortedBy nat_cmp (keys_of ys)) (sym (one ∙ ap (λ f. f ++ e ∷ []) empty)) (tt, tt) in
    subst (λ (xs : List L). AllByRecursion (λ l. IsStrictlySortedBy nat_cmp (keys_of (items l))) xs) (sym (is ∙ ap (λ b. b ++ l ∷ []) none)) (rises, tt)
