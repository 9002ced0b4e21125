-- Steps of loops that go over a list and keep some of it.
use Rattle.std.proofs.Common.{◌≡◌, ℕ, ◌+◌, ◌<◌, Bool, true, false, cond, List, [], ◌∷◌, ◌++◌, length, get_or, take, sym, ap, ◌∙◌, append_assoc}
use Rattle.std.specs.List.{filter}
use Rattle.std.proofs.lemmas.List.{append-nil, take_more}
use Rattle.std.proofs.lemmas.List.Elements.{filter-append}

module _ {X : Type 0} (p : X → Bool) (start xs : List X) (i : ℕ) (x : X) (within : i < length xs) where
  one_more : filter p (take (i + 1) xs) ≡ filter p (take i xs) ++ cond (p (get_or xs i x)) (get_or xs i x ∷ []) []
  one_more = ap (filter p) (take_more xs i x within) ∙ filter-append p (take i xs) (get_or xs i x ∷ [])

  pub kept_more : {before after : List X} → p (get_or xs i x) ≡ true → before ≡ start ++ filter p (take i xs) → after ≡ before ++ get_or xs i x ∷ []
      → after ≡ start ++ filter p (take (i + 1) xs)
  kept_more kept so_far pushed =
      let y = get_or xs i x in
      pushed ∙ ap (λ l. l ++ y ∷ []) so_far ∙ append_assoc start (filter p (take i xs)) (y ∷ [])
      ∙ ap (λ l. start ++ l) (sym (one_more ∙ ap (λ b. filter p (take i xs) ++ cond b (y ∷ []) []) kept))

  pub left_out : {before : List X} → p (get_or xs i x) ≡ false → before ≡ start ++ filter p (take i xs) → before ≡ start ++ filter p (take (i + 1) xs)
  left_out out so_far =
      so_far ∙ ap (λ l. start ++ l)
      (sym (one_more ∙ ap (λ b. filter p (take i xs) ++ cond b (get_or xs i x ∷ []) []) out ∙ append-nil (filter p (take i xs))))
