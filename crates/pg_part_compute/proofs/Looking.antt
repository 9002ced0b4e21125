-- The ids that a step against an old run looks at.
use Rattle.std.proofs.Common.{◌≡◌, ℕ, ◌||◌, ◌&&◌, Bool, true, false, List, ◌++◌, refl, sym, ap, ap₂, ◌∙◌, true≢false}
use Rattle.pg_inbox.proofs.Among.{both}
use Rattle.pg_inbox.proofs.Handed.{has_id-append}
use Rattle.pg_model.proofs.LawsRising.{has_id-filter}
use Rattle.std.specs.List.{filter}
use Rattle.pg_model.specs.Superstep.{has_id}
use Rattle.pg_part_compute.specs.Diverged.{HaveSameIds}

-- the same ids in another order, put after others
pub same_after : (xs ys zs : List ℕ) → HaveSameIds ys zs → HaveSameIds (xs ++ ys) (xs ++ zs)
same_after xs ys zs same id = has_id-append xs ys id ∙ ap (λ (b : Bool). has_id xs id || b) (same id) ∙ sym (has_id-append xs zs id)

-- what passes a test is among those that do, and passes it
pub passing : (test : ℕ → Bool) (ids : List ℕ) (id : ℕ) → has_id (filter test ids) id ≡ true → (test id ≡ true) × (has_id ids id ≡ true)
passing test ids id h = both (test id) (has_id ids id) (sym (has_id-filter test ids id) ∙ h)

-- and what isn't among them doesn't
pub failing : (test : ℕ → Bool) (ids : List ℕ) (id : ℕ) → has_id ids id ≡ true → has_id (filter test ids) id ≡ false → test id ≡ false
failing test ids id there apart = by (test id) refl
  where
    by : (b : Bool) → test id ≡ b → b ≡ false
    by true e = absurd (true≢false (sym (has_id-filter test ids id ∙ ap₂ ◌&&◌ e there) ∙ apart))
    by false e = refl
