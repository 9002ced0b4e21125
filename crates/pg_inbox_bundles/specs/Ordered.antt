-- Lists by rising id.
use Rattle.std.specs.Prelude.{ℕ, nat_lt, cond, List, [], ◌∷◌}

module _ {X : Type 0} where
  abbrev pub put : ℕ × X → List (ℕ × X) → List (ℕ × X)
  put x [] = x ∷ []
  put x (y ∷ ys) = cond (nat_lt y.0 x.0) (y ∷ put x ys) (x ∷ y ∷ ys)

  -- by rising id, those of one id in their order
  abbrev pub in_order : List (ℕ × X) → List (ℕ × X)
  in_order [] = []
  in_order (x ∷ xs) = put x (in_order xs)
