-- Lists of places: what one place more makes of them, and what stands at a place.
use Rattle.std.proofs.Common.{◌≡◌, ℕ, zero, suc, ◌<◌, ◌||◌, List, [], ◌∷◌, ◌++◌, length, Some, refl, sym, ap, ◌∙◌, arith}
use Rattle.std.specs.Prelude.{◌==◌}
use Rattle.std.specs.List.{slice_get}
use Rattle.std.proofs.Math.Bool.{or-false, or_assoc}
use Rattle.pg_model.specs.Superstep.{has_id}

-- a place is on the list that it is added to, and the others as they were
pub has_id-push : (places : List ℕ) (place other : ℕ) → has_id (places ++ place ∷ []) other ≡ (has_id places other || (place == other))
has_id-push [] place other = or-false (place == other)
has_id-push (p ∷ places) place other =
    ap (λ b. (p == other) || b) (has_id-push places place other) ∙ sym (or_assoc (p == other) (has_id places other) (place == other))

-- the element at a place within
pub element : {X : Type 0} (xs : List X) (i : ℕ) → i < length xs → (x : X) × (slice_get xs i ≡ Some x)
element [] i h = absurd (omega arith)
element (x ∷ xs) zero h = (x, refl)
element (x ∷ xs) (suc i) h = element xs i (omega arith)
