-- What was written, one text after another.
use Rattle.std.proofs.Common.{◌≡◌, ℕ, ℤ, ◌+◌, ◌<◌, ◌≤◌, List, [], ◌∷◌, ◌++◌, length, take, flat_map, slice_index_or, Option, None, Some, sym, ap}
use Rattle.std.proofs.Common.{subst, ◌∙◌, append_assoc, append-nil, arith}
use Rattle.std.specs.Io.KnownBytes.{Appends, Keeps}
use Rattle.std.proofs.lemmas.Grind.{common_steps}
use Rattle.pregeld.specs.Reply.{line_of_value}

pub nothing_written : (known : Option (List ℕ)) → Appends known known []
nothing_written None = tt
nothing_written (Some xs) = sym (append-nil xs)

pub written_then : (u v w : Option (List ℕ)) (a b : List ℕ) → Appends u v a → Appends v w b → Appends u w (a ++ b)
written_then None v w a b x y = tt
written_then (Some xs) None w a b x y = absurd x
written_then (Some xs) (Some ys) None a b x y = y
written_then (Some xs) (Some ys) (Some zs) a b x y = y ∙ ap (λ (t : List ℕ). t ++ b) x ∙ append_assoc xs a b

pub written_kept : (u v w : Option (List ℕ)) (a : List ℕ) → Appends u v a → Keeps v w → Appends u w a
written_kept None v w a x y = tt
written_kept (Some xs) None w a x y = absurd x
written_kept (Some xs) (Some ys) None a x y = absurd y
written_kept (Some xs) (Some ys) (Some zs) a x y = y ∙ x

-- ---- the lines of values

take_more : (xs : List (ℕ × ℤ)) (i : ℕ) (x : ℕ × ℤ) → i < length xs → x ≡ slice_index_or xs i x → take (i + 1) xs ≡ take i xs ++ x ∷ []
take_more xs i x within x_is = grind (arith, common_steps)

values-append : (xs : List (ℕ × ℤ)) (x : ℕ × ℤ) → flat_map line_of_value (xs ++ x ∷ []) ≡ flat_map line_of_value xs ++ line_of_value x
values-append [] x = append-nil (line_of_value x)
values-append (y ∷ xs) x = ap (λ t. line_of_value y ++ t) (values-append xs x) ∙ sym (append_assoc (line_of_value y) (flat_map line_of_value xs)
    (line_of_value x))

values_more : (xs : List (ℕ × ℤ)) (i : ℕ) (x : ℕ × ℤ) → i < length xs → x ≡ slice_index_or xs i x → flat_map line_of_value (take (i + 1) xs)
    ≡ flat_map line_of_value (take i xs) ++ line_of_value x
values_more xs i x within x_is =
    ap (flat_map line_of_value) (take_more xs i x within x_is) ∙ values-append (take i xs) x

pub one_more_written : (u v w : Option (List ℕ)) (xs : List (ℕ × ℤ)) (i : ℕ) (x : ℕ × ℤ) → i < length xs → x ≡ slice_index_or xs i x
    → Appends u v (flat_map line_of_value (take i xs)) → Appends v w (line_of_value x)
    → Appends u w (flat_map line_of_value (take (i + 1) xs))
one_more_written u v w xs i x within x_is so_far more =
    subst (Appends u w) (sym (values_more xs i x within x_is)) (written_then u v w (flat_map line_of_value (take i xs)) (line_of_value x) so_far more)

pub all_written : (u v : Option (List ℕ)) (xs : List (ℕ × ℤ)) (i : ℕ) → length xs ≤ i → Appends u v (flat_map line_of_value (take i xs))
    → Appends u v (flat_map line_of_value xs)
all_written u v xs i past so_far = subst (λ ys. Appends u v (flat_map line_of_value ys)) (grind (arith, common_steps)) so_far
