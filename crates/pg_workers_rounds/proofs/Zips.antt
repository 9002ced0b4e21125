-- Lists whose elements belong together place by place.
use Rattle.std.proofs.Common.{◌≡◌, ℕ, zero, suc, ◌<◌, List, [], ◌∷◌, ◌++◌, length, get_or, refl, ap, arith}
use Rattle.std.specs.List.{AllZip}

-- one more of each
pub zip_push : {A B : Type 0} (R : A → B → Type 0) (xs : List A) (ys : List B) (x : A) (y : B) → AllZip R xs ys → R x y
    → AllZip R (xs ++ x ∷ []) (ys ++ y ∷ [])
zip_push R [] [] x y all one = (one, tt)
zip_push R [] (z ∷ zs) x y all one = absurd all
zip_push R (z ∷ zs) [] x y all one = absurd all
zip_push R (z ∷ zs) (w ∷ ws) x y all one = (all.0, zip_push R zs ws x y all.1 one)

-- there are as many of both
pub zip_many : {A B : Type 0} (R : A → B → Type 0) (xs : List A) (ys : List B) → AllZip R xs ys → length ys ≡ length xs
zip_many R [] [] all = refl
zip_many R [] (y ∷ ys) all = absurd all
zip_many R (x ∷ xs) [] all = absurd all
zip_many R (x ∷ xs) (y ∷ ys) all = ap suc (zip_many R xs ys all.1)

-- those at one place belong together
pub zip_at : {A B : Type 0} (R : A → B → Type 0) (xs : List A) (ys : List B) (i : ℕ) (d : A) (e : B) → AllZip R xs ys → i < length xs
    → R (get_or xs i d) (get_or ys i e)
zip_at R [] ys i d e all within = absurd (omega (arith, within))
zip_at R (x ∷ xs) [] i d e all within = absurd all
zip_at R (x ∷ xs) (y ∷ ys) zero d e all within = all.0
zip_at R (x ∷ xs) (y ∷ ys) (suc i) d e all within = zip_at R xs ys i d e all.1 (omega (arith, within))
