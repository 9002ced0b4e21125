-- A list made item by item of another, and a text that is added last.
use Rattle.std.proofs.Common.{◌≡◌, ℕ, ◌+◌, ◌<◌, ◌≤◌, cond, List, [], ◌∷◌, ◌++◌, length, get_or, map, take, Result, Ok, Err, ap, sym, ◌∙◌, append_assoc}
use Rattle.std.specs.Result.{OnErr, OnOk, is_ok}
use Rattle.std.proofs.lemmas.List.{map-append, take_all, take_more}

module _ {X Y : Type 0} (f : X → Y) (xs : List X) where
  pub appended_more : (i : ℕ) (x : X) (start before after : List Y) → i < length xs → x ≡ get_or xs i x
      → before ≡ start ++ map f (take i xs) → after ≡ before ++ f x ∷ [] → after ≡ start ++ map f (take (i + 1) xs)
  appended_more i x start before after within is so_far pushed =
      pushed ∙ ap (λ l. l ++ f x ∷ []) so_far
      ∙ append_assoc start (map f (take i xs)) (f x ∷ [])
      ∙ ap (λ z. start ++ (map f (take i xs) ++ f z ∷ [])) is
      ∙ ap (λ l. start ++ l) (sym (map-append f (take i xs) (get_or xs i x ∷ [])) ∙ sym (ap (map f) (take_more xs i x within)))

  pub appended_all : (i : ℕ) (start made : List Y) → length xs ≤ i → made ≡ start ++ map f (take i xs) → made ≡ start ++ map f xs
  appended_all i start made all so_far = so_far ∙ ap (λ l. start ++ map f l) (take_all i xs all)

-- a text that is added last, where it can be
module _ {T E : Type 0} (r : Result T E) (before added after : List ℕ) (stated : after ≡ cond (is_ok r) (before ++ added) before) where
  pub added_ok : (text : List ℕ) → added ≡ text → OnOk r (after ≡ before ++ text)
  added_ok text is = by r stated
    where
      by : (r : Result T E) → after ≡ cond (is_ok r) (before ++ added) before → OnOk r (after ≡ before ++ text)
      by (Ok x) stated = stated ∙ ap (λ l. before ++ l) is
      by (Err e) stated = tt

  pub added_err : OnErr r (after ≡ before)
  added_err = by r stated
    where
      by : (r : Result T E) → after ≡ cond (is_ok r) (before ++ added) before → OnErr r (after ≡ before)
      by (Ok x) stated = tt
      by (Err e) stated = stated
