-- A shelf that keeps nothing: all that was put fades to nothing.
use Rattle.std.proofs.Common.{List, ℕ, Option, subst, sym}
use Rattle.std.specs.Cmp.Lexicographic.{slice_cmp}
use Rattle.std.specs.FinMap.{empty, get, get-empty}
use Rattle.std.specs.Ordering.{nat_cmp}
use Rattle.pg_checkpoint.specs.Shelf.{Fades}

pub fades_to_nothing : (before : Option (List ℕ)) (key : List ℕ) → Fades before (get (empty {X = List ℕ} {R = slice_cmp nat_cmp}) key)
fades_to_nothing before key = subst (λ (retained : Option (List ℕ)). Fades before retained) (sym (get-empty (slice_cmp nat_cmp) key)) tt

-- nor is there anything that could fade
pub nothing_fades : (key : List ℕ) → Fades (get (empty {X = List ℕ} {R = slice_cmp nat_cmp}) key) (get (empty {X = List ℕ} {R = slice_cmp nat_cmp}) key)
nothing_fades key = fades_to_nothing (get (empty {X = List ℕ} {R = slice_cmp nat_cmp}) key) key
