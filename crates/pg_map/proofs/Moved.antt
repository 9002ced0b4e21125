-- Steps and ends of loops that move what they take from one list to another, or copy it.
use Rattle.std.proofs.Common.{◌≡◌, ℕ, ◌+◌, ◌<◌, List, [], ◌∷◌, ◌++◌, length, get_or, take, drop, ap, sym, ◌∙◌, append_assoc}
use Rattle.std.proofs.lemmas.List.{append-nil, drop_more, take_more}

module _ {X : Type 0} where
  pub first_of_rest : (xs : List X) (i : ℕ) {x : X} → i < length xs → x ≡ get_or xs i x → drop i xs ≡ x ∷ drop (i + 1) xs
  first_of_rest xs i {x} within is = drop_more xs i x within ∙ ap (λ y. y ∷ drop (i + 1) xs) (sym is)

  pub moved_one : (before rest : List X) {x : X} {after remaining whole : List X} → remaining ≡ x ∷ rest → before ++ remaining ≡ whole → after ≡ before ++ x ∷ []
      → after ++ rest ≡ whole
  moved_one before rest {x} next so_far pushed =
      ap (λ l. l ++ rest) pushed ∙ append_assoc before (x ∷ []) rest ∙ ap (λ l. before ++ l) (sym next) ∙ so_far

  pub moved_all : (before : List X) {remaining whole : List X} → remaining ≡ [] → before ++ remaining ≡ whole → before ≡ whole
  moved_all before none so_far = sym (append-nil before) ∙ ap (λ l. before ++ l) (sym none) ∙ so_far

  pub taken_more : (xs : List X) (i : ℕ) {x : X} {before after : List X} → i < length xs → x ≡ get_or xs i x → before ≡ take i xs
      → after ≡ before ++ x ∷ [] → after ≡ take (i + 1) xs
  taken_more xs i {x} within is so_far pushed =
      pushed ∙ ap (λ l. l ++ x ∷ []) so_far ∙ ap (λ y. take i xs ++ y ∷ []) is ∙ sym (take_more xs i x within)
