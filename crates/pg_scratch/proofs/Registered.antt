-- One registration more.
use Rattle.std.proofs.Common.{◌≡◌, ℕ, zero, suc, ◌+◌, List, [], ◌∷◌, ◌++◌, map, take, None, Some, sym, ap, ◌∙◌, add-one}
use Rattle.std.specs.List.{slice_get}
use Rattle.std.specs.Option.{option_map}

next_taken : {K X : Type 0} (es : List (K × X)) (i : ℕ) (x : X) → option_map (λ e. e.1) (slice_get es i) ≡ Some x
    → map (λ e. e.1) (take (suc i) es) ≡ map (λ e. e.1) (take i es) ++ x ∷ []
next_taken [] i x h = let k : None ≡ Some x = h in cc
next_taken (e ∷ es) zero x h = ap (λ y. y ∷ []) (let k : Some e.1 ≡ Some x = h in cc)
next_taken (e ∷ es) (suc i) x h = ap (λ l. e.1 ∷ l) (next_taken es i x h)

pub registered_more : {K X : Type 0} (es : List (K × X)) (i : ℕ) (x : X) (before after : List X)
    → option_map (λ e. e.1) (slice_get es i) ≡ Some x → before ≡ map (λ e. e.1) (take i es) → after ≡ before ++ x ∷ []
    → after ≡ map (λ e. e.1) (take (i + 1) es)
registered_more es i x before after at so_far pushed =
    pushed ∙ ap (λ l. l ++ x ∷ []) so_far ∙ sym (next_taken es i x at) ∙ ap (λ (n : ℕ). map (λ e. e.1) (take n es)) (sym (add-one i))
