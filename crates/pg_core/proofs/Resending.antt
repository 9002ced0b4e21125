-- What a restored partition has recorded is sent again, superstep by superstep.
use Rattle.std.proofs.Common.{◌≡◌, ℕ, ◌+◌, ◌<◌, true, false, ◌&&◌, List, length, Option, refl, ap, sym, ◌∙◌, subst, arith, inl, inr}
use Rattle.std.specs.Prelude.{◌==◌, nat_lt}
use Rattle.std.specs.List.{slice_get}
use Rattle.std.proofs.lemmas.Bool.{and_cases, and_left, and_right, cases_eq, cond-false, cond-true, eq-eqb, le-ltb, lt-ltb, ltb-false, ne_eqb}
use Rattle.pg_core.specs.Losing.{HasSentAgain, HasSentIn}
use Rattle.pg_core.specs.Progress.{HasPut}
use Rattle.pg_inbox.specs.LoggedBundle.{Slots, slot_at}
use Rattle.pg_inbox.specs.Handed.{LoggedBundle}
use Rattle.pg_model.specs.Job.{Combining}
use Rattle.pg_part.specs.Handed.{IsFresh, items_to, sends_by_records}
use Rattle.pg_trace.specs.Trace.{Trace, records_of}

module _ {V M : Type 0} (combining : Option (Combining M)) (n p : ℕ) (trace : Trace V M) where
  -- fresh bundles that were put into the logs of a superstep are what was sent there
  pub sent_in : (s : ℕ) (bundles : List (LoggedBundle M)) (before now : Slots M) → length bundles ≡ n
      → ((q : ℕ) → q < n → IsFresh combining (items_to n q (sends_by_records (records_of s trace))) (slice_get bundles q))
      → HasPut s p bundles before now → HasSentIn combining n p s trace before now
  sent_in s bundles before now many fresh put = record {
    sent = λ q within.
        let mine : (p == p) && ((s == s) && nat_lt q (length bundles)) ≡ true =
        ap (λ b. b && ((s == s) && nat_lt q (length bundles))) (eq-eqb p p refl)
        ∙ (ap (λ b. b && nat_lt q (length bundles)) (eq-eqb s s refl) ∙ lt-ltb q (length bundles) (omega (arith, many, within))) in
        subst (IsFresh combining (items_to n q (sends_by_records (records_of s trace))))
        (sym (put s p q ∙ cond-true _ (slice_get bundles q) (slot_at before s p q) mine)) (fresh q within);
    others = λ t u q apart.
        put t u q
        ∙ cond-false _ (slice_get bundles q) (slot_at before t u q) (ap (λ (m : ℕ). (p == u) && ((s == t) && nat_lt q m)) many ∙ apart);
  }

  pub again_none : (logs : Slots M) → HasSentAgain combining n p 0 trace logs logs
  again_none logs = record { sent = λ s q before within. absurd (omega (arith, before)); others = λ s u q apart. refl }

  -- a superstep is neither r nor below it, or else the slot is another's
  apart_now : (r s u q : ℕ) → ((p == u) && (nat_lt s (r + 1) && nat_lt q n)) ≡ false → ((p == u) && ((r == s) && nat_lt q n)) ≡ false
  apart_now r s u q apart =
      elim (and_cases (p == u) (nat_lt s (r + 1) && nat_lt q n) apart) [
        | inl other ↦ and_left (p == u) _ other
        | inr rest ↦ and_right (p == u) _ (elim (and_cases (nat_lt s (r + 1)) (nat_lt q n) rest) [
          | inl late ↦ and_left (r == s) (nat_lt q n) (ne_eqb r s (λ e. omega (arith, e, ltb-false s (r + 1) late)))
          | inr out ↦ and_right (r == s) (nat_lt q n) out
        ])
      ]

  apart_before : (r s u q : ℕ) → ((p == u) && (nat_lt s (r + 1) && nat_lt q n)) ≡ false → ((p == u) && (nat_lt s r && nat_lt q n)) ≡ false
  apart_before r s u q apart =
      elim (and_cases (p == u) (nat_lt s (r + 1) && nat_lt q n) apart) [
        | inl other ↦ and_left (p == u) _ other
        | inr rest ↦ and_right (p == u) _ (elim (and_cases (nat_lt s (r + 1)) (nat_lt q n) rest) [
          | inl late ↦ and_left (nat_lt s r) (nat_lt q n) (le-ltb s r (omega (arith, ltb-false s (r + 1) late)))
          | inr out ↦ and_right (nat_lt s r) (nat_lt q n) out
        ])
      ]

  -- of one superstep more
  pub again_more : (r : ℕ) (before mid now : Slots M) → HasSentAgain combining n p r trace before mid → HasSentIn combining n p r trace mid now
      → HasSentAgain combining n p (r + 1) trace before now
  again_more r before mid now so_far next = record {
    sent = λ s q early within. elim (cases_eq s r) [
      | inl same ↦ subst (λ (s : ℕ). IsFresh combining (items_to n q (sends_by_records (records_of s trace))) (slot_at now s p q)) (sym same)
          (next.sent q within)
      | inr apart ↦ (
          let stays : slot_at now s p q ≡ slot_at mid s p q =
          next.others s p q (and_right (p == p) _ (and_left (r == s) (nat_lt q n) (ne_eqb r s (λ e. apart (sym e))))) in
          subst (IsFresh combining (items_to n q (sends_by_records (records_of s trace)))) (sym stays)
          (so_far.sent s q (omega (arith, early, apart)) within)
          )
    ];
    others = λ s u q apart. next.others s u q (apart_now r s u q apart) ∙ so_far.others s u q (apart_before r s u q apart);
  }
