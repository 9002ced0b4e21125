-- A list made item by item of another.
use Rattle.std.proofs.Common.{◌≡◌, ℕ, ◌+◌, ◌<◌, ◌≤◌, List, [], ◌∷◌, ◌++◌, length, get_or, map, take, ap, sym, ◌∙◌, append_assoc}
use Rattle.std.proofs.lemmas.List.{append-nil, map-append, nil_from_length, take_all, take_more}

module _ {X Y : Type 0} (f : X → Y) (xs : List X) where
  pub mapped_more : (i : ℕ) (x : X) (before after : List Y) → i < length xs → x ≡ get_or xs i x → before ≡ map f (take i xs)
      → after ≡ before ++ f x ∷ [] → after ≡ map f (take (i + 1) xs)
  mapped_more i x before after within is so_far pushed =
      pushed ∙ ap (λ l. l ++ f x ∷ []) so_far
      ∙ ap (λ z. map f (take i xs) ++ f z ∷ []) is
      ∙ sym (map-append f (take i xs) (get_or xs i x ∷ []))
      ∙ sym (ap (map f) (take_more xs i x within))

  pub mapped_all : (i : ℕ) (made : List Y) → length xs ≤ i → made ≡ map f (take i xs) → made ≡ map f xs
  mapped_all i made all so_far = so_far ∙ ap (map f) (take_all i xs all)

-- the items that are left are made one after another
module _ {X Y : Type 0} (f : X → Y) where
  pub made_more : (x : X) (y : Y) (rest now : List X) (before after whole : List Y) → now ≡ x ∷ rest → y ≡ f x → after ≡ before ++ y ∷ []
      → before ++ map f now ≡ whole → after ++ map f rest ≡ whole
  made_more x y rest now before after whole next made pushed so_far =
      ap (λ l. l ++ map f rest) pushed
      ∙ append_assoc before (y ∷ []) (map f rest)
      ∙ ap (λ z. before ++ z ∷ map f rest) made
      ∙ ap (λ l. before ++ map f l) (sym next)
      ∙ so_far

  pub made_all : (left : List X) (before whole : List Y) → length left ≡ 0 → before ++ map f left ≡ whole → before ≡ whole
  made_all left before whole none so_far =
      sym (append-nil before) ∙ ap (λ l. before ++ map f l) (sym (nil_from_length left none)) ∙ so_far
