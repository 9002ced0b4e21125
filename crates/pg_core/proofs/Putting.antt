-- Bundles are put into the logs one after another.
use Rattle.std.proofs.Common.{◌≡◌, ℕ, zero, suc, ◌+◌, ◌<◌, Bool, true, false, cond, ◌&&◌, List, []}
use Rattle.std.proofs.Common.{◌∷◌, ◌++◌, length, Option, Some, refl, ap, sym, ◌∙◌, arith, inl, inr}
use Rattle.std.specs.Prelude.{◌==◌, nat_lt}
use Rattle.std.specs.List.{slice_get}
use Rattle.std.proofs.lemmas.Bool.{cases_order, cond-true, cond-false, eq-eqb, ne_eqb, lt-ltb, le-ltb}
use Rattle.std.proofs.lemmas.List.{length_push}
use Rattle.pg_core.specs.Progress.{HasPut}
use Rattle.pg_inbox.specs.LoggedBundle.{Slots, is_pair, slot_at}
use Rattle.pg_inbox.specs.Handed.{LoggedBundle}

pub slice_get_pushed : {X : Type 0} (xs : List X) (x : X) → slice_get (xs ++ x ∷ []) (length xs) ≡ Some x
slice_get_pushed [] x = refl
slice_get_pushed (y ∷ ys) x = slice_get_pushed ys x

pub slice_get_before : {X : Type 0} (xs : List X) (x : X) (k : ℕ) → k < length xs → slice_get (xs ++ x ∷ []) k ≡ slice_get xs k
slice_get_before [] x k h = absurd (omega arith)
slice_get_before (y ∷ ys) x zero h = refl
slice_get_before (y ∷ ys) x (suc k) h = slice_get_before ys x k (omega arith)

-- a slot after one more was put, by whether it is of the same sender and superstep
one_more : {X : Type 0} (same_sender same_superstep : Bool) (xs : List X) (x : X) (q : ℕ) (old mid new : Option X)
    → mid ≡ cond (same_sender && (same_superstep && nat_lt q (length xs))) (slice_get xs q) old
    → new ≡ cond (same_sender && (same_superstep && (length xs == q))) (Some x) mid
    → new ≡ cond (same_sender && (same_superstep && nat_lt q (length (xs ++ x ∷ [])))) (slice_get (xs ++ x ∷ []) q) old
one_more false b xs x q old mid new so_far put = put ∙ so_far
one_more true false xs x q old mid new so_far put = put ∙ so_far
one_more true true xs x q old mid new so_far put =
    let many : length (xs ++ x ∷ []) ≡ length xs + 1 = length_push xs x in
    elim (cases_order (length xs) q) [
      | inl same ↦ (
          let is : (length xs == q) ≡ true = eq-eqb (length xs) q same in
          let within : nat_lt q (length (xs ++ x ∷ [])) ≡ true = lt-ltb q (length (xs ++ x ∷ [])) (omega (arith, many, same)) in
          put ∙ cond-true (length xs == q) (Some x) mid is
          ∙ sym (cond-true (nat_lt q (length (xs ++ x ∷ []))) (slice_get (xs ++ x ∷ []) q) old within ∙
          (ap (slice_get (xs ++ x ∷ [])) (sym same) ∙ slice_get_pushed xs x))
          )
      | inr (inl past) ↦ (
          let not : (length xs == q) ≡ false = ne_eqb (length xs) q (λ e. omega (arith, e, past)) in
          let beyond : nat_lt q (length xs) ≡ false = le-ltb q (length xs) (omega (arith, past)) in
          let beyond' : nat_lt q (length (xs ++ x ∷ [])) ≡ false = le-ltb q (length (xs ++ x ∷ [])) (omega (arith, many, past)) in
          put ∙ cond-false (length xs == q) (Some x) mid not ∙ (so_far ∙ cond-false (nat_lt q (length xs)) (slice_get xs q) old beyond)
          ∙ sym (cond-false (nat_lt q (length (xs ++ x ∷ []))) (slice_get (xs ++ x ∷ []) q) old beyond')
          )
      | inr (inr before) ↦ (
          let not : (length xs == q) ≡ false = ne_eqb (length xs) q (λ e. omega (arith, e, before)) in
          let inside : nat_lt q (length xs) ≡ true = lt-ltb q (length xs) before in
          let inside' : nat_lt q (length (xs ++ x ∷ [])) ≡ true = lt-ltb q (length (xs ++ x ∷ [])) (omega (arith, many, before)) in
          put ∙ cond-false (length xs == q) (Some x) mid not ∙ (so_far ∙ cond-true (nat_lt q (length xs)) (slice_get xs q) old inside)
          ∙ sym (cond-true (nat_lt q (length (xs ++ x ∷ []))) (slice_get (xs ++ x ∷ []) q) old inside' ∙ slice_get_before xs x q before)
          )
    ]

module _ {M : Type 0} (s p : ℕ) where
  pub HasPut-more : (bundles : List (LoggedBundle M)) (bundle : LoggedBundle M) (old mid new : Slots M) → HasPut s p bundles old mid
      → ((t other q : ℕ) → slot_at new t other q ≡ cond (is_pair s p (length bundles) t other q) (Some bundle) (slot_at mid t other q))
      → HasPut s p (bundles ++ bundle ∷ []) old new
  HasPut-more bundles bundle old mid new so_far put t other q =
      one_more (p == other) (s == t) bundles bundle q (slot_at old t other q) (slot_at mid t other q) (slot_at new t other q) (so_far t other q) (put t other q)
