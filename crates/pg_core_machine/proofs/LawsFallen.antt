-- Where nobody is alive each worker fell once, and nobody else did.
use Rattle.std.proofs.Common.{◌≡◌, ℕ, zero, suc, ◌+◌, ◌<◌, ◌≤◌, Bool, true, false, cond, List, [], ◌∷◌, length, refl, ap, sym, ◌∙◌, subst, arith, Option, inl, inr}
use Rattle.std.specs.Prelude.{◌==◌, nat_lt}
use Rattle.std.specs.List.{count_by}
use Rattle.std.proofs.lemmas.Bool.{cases_lt, cases_Bool, eqb-true, lt-ltb, ltb-true, ne_eqb, true≢false}
use Rattle.std.proofs.lemmas.List.FromFn.{length-map-range_with_len}
use Rattle.std.proofs.lemmas.List.Sums.{sum_by-cons}
use Rattle.pg_core_machine.specs.Losses.{falls_of, losses_in}
use Rattle.pg_core_machine.specs.Machine.{Reaches, State, first_state, is_alive}
use Rattle.pg_core_machine.specs.declared.event.Event.{Event}
use Rattle.pg_core_machine.proofs.LawsLosses.{AreWorkers, fell_once, if_not, if_so, losses_are_workers}

-- none is one that isn't a worker
none_beyond : (workers w : ℕ) (losses : List (ℕ × Option ℕ)) → AreWorkers workers losses → workers ≤ w → falls_of w losses ≡ 0
none_beyond workers w [] are past = refl
none_beyond workers w (loss ∷ losses) are past =
    let other : if_so (loss.0 == w) ≡ 0 = ap if_so (ne_eqb loss.0 w (λ e. omega (arith, e, past, are.0))) in
    omega (arith, sum_by-cons (λ (l : ℕ × Option ℕ). cond (l.0 == w) 1 0) loss losses, other, none_beyond workers w losses are.1 past)

pub fell_all : (partitions workers : ℕ) (events : List Event) (to : State) → Reaches (first_state partitions workers) events to
    → ((w : ℕ) → w < workers → is_alive w to ≡ false)
    → (w : ℕ) → falls_of w (losses_in (first_state partitions workers) events) ≡ cond (nat_lt w workers) 1 0
fell_all partitions workers events to reaches none w =
    elim (cases_lt w workers) [
      | inl within ↦ fell_once partitions workers events to reaches w within ∙ (ap if_not (none w within) ∙ sym (ap if_so (lt-ltb w workers within)))
      | inr past ↦ (
          let from : State = first_state partitions workers in
          let many : length from.alive ≡ workers = length-map-range_with_len (λ (w : ℕ). true) 0 workers in
          let never : falls_of w (losses_in from events) ≡ 0 =
          none_beyond workers w (losses_in from events) (subst (λ (n : ℕ). AreWorkers n (losses_in from events)) many (losses_are_workers from events reaches.allowed)) past in
          let no : nat_lt w workers ≡ false = (elim (cases_Bool (nat_lt w workers)) [
            | inl is ↦ absurd (let less : w < workers = ltb-true w workers is in omega (arith, less, past))
            | inr is ↦ is
          ]) in
          never ∙ sym (ap if_so no)
          )
    ]
