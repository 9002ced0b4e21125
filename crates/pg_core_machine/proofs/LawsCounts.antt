-- What events count where nobody fell.
use Rattle.std.proofs.Common.{◌≡◌, ℕ, zero, suc, ◌+◌, ◌<◌, ◌≤◌, ◌≢◌, Bool, true, false, cond, not, ◌||◌, ◌&&◌, List, [], ◌∷◌, ◌++◌, length, get_or, set, refl}
use Rattle.std.proofs.Common.{ap, sym, ◌∙◌, subst, arith, Option, None, Some, is_some, inl, inr}
use Rattle.std.specs.List.{list_all, range_with_len, sum_by}
use Rattle.std.proofs.lemmas.Bool.{and_from, and_parts, ltb-true, true≢false, not-true, cases_eq}
use Rattle.pg_core_machine.specs.Machine.{State, first_state, place_at, is_partition, is_allowed, after, after_all, are_allowed, Reaches, takes, was_lost}
use Rattle.pg_core_machine.specs.Losses.{is_anew, losses_in, lost_by, counts_by, counts_in}
use Rattle.pg_core_machine.specs.declared.event.Closed.TheVariants.{Next, Ended}
use Rattle.pg_core_machine.specs.declared.event.Event.{Event}
use Rattle.pg_core_machine.specs.declared.event.Event.TheVariants.{Step, Lose, Host, Restore, Save, Close}
use Rattle.pg_core_machine.proofs.LawsMachine.{length-places, length-first, starts_at, place_at_end, some_within}
use Rattle.pg_core_machine.proofs.LawsSteps.{StepsFrom-from_allowed, place_after_other, place_after_own}
use Rattle.pg_core_machine.proofs.LawsLosses.{counts_by-same}
use Rattle.pg_core_machine.proofs.Sums.{sum_changed, sum_more, sum_none, sum_same}

nothing_first : {X : Type 0} (xs ys : List X) → xs ++ ys ≡ [] → (xs ≡ []) × (ys ≡ [])
nothing_first [] ys e = (refl, e)
nothing_first (x ∷ xs) ys e = absurd (let k : x ∷ (xs ++ ys) ≡ [] = e in cc)

-- an event by which nobody falls takes no partition
takes_none : (p : ℕ) (state : State) (event : Event) → lost_by state event ≡ [] → takes p state event ≡ false
takes_none p state (Step q) none = refl
takes_none p state (Lose w) none = absurd (cc)
takes_none p state (Host q w) none = refl
takes_none p state (Restore q r) none = refl
takes_none p state (Save q) none = refl
takes_none p state (Close answer) none = refl

-- where nobody falls no partition is lost
pub none_was_lost : (p : ℕ) (state : State) (events : List Event) → losses_in state events ≡ [] → was_lost p state events ≡ false
none_was_lost p state [] none = refl
none_was_lost p state (e ∷ es) none =
    let parts : (lost_by state e ≡ []) × (losses_in (after state e) es ≡ []) = nothing_first (lost_by state e) (losses_in (after state e) es) none in
    ap (λ (b : Bool). b || was_lost p (after state e) es) (takes_none p state e parts.0) ∙ none_was_lost p (after state e) es parts.1

module _ (needs : Bool → ℕ → ℕ → ℕ) where
  counts_in-same : (a b : ℕ → Bool) (state : State) (events : List Event) → ((p : ℕ) → a p ≡ b p) → counts_in needs a state events ≡ counts_in needs b state events
  counts_in-same a b state [] same = refl
  counts_in-same a b state (e ∷ es) same =
      let here : counts_by needs a state e ≡ counts_by needs b state e = counts_by-same needs a b state e same in
      let rest : counts_in needs (λ p. a p || takes p state e) (after state e) es ≡ counts_in needs (λ p. b p || takes p state e) (after state e) es =
      counts_in-same (λ p. a p || takes p state e) (λ p. b p || takes p state e) (after state e) es
      (λ p. ap (λ (lost : Bool). lost || takes p state e) (same p)) in
      omega (arith, here, rest)

  -- what a partition at this place has counted on its way
  abbrev on_way : ℕ → Option ℕ → ℕ
  on_way p None = 0
  on_way p (Some r) = sum_by (needs false p) (range_with_len 0 r)

  module _ (n : ℕ) where
    abbrev all_on_way : State → ℕ
    all_on_way state = sum_by (λ p. on_way p (place_at p state)) (range_with_len 0 n)

    abbrev AllThere : State → Type 0
    AllThere state = (p : ℕ) → p < n → is_some (place_at p state) ≡ true

    record Goes (state after : State) (counts : ℕ) : Type 0 where
      pub counted : all_on_way after ≡ counts + all_on_way state
      pub there : AllThere after

    goes_same : (state : State) → AllThere state → Goes state state 0
    goes_same state there = record { counted = omega arith; there = there }

    goes : (state : State) (event : Event) → length state.places ≡ n → AllThere state → is_allowed state event ≡ true → lost_by state event ≡ []
        → Goes state (after state event) (counts_by needs (λ p. false) state event)
    goes state (Step p) each there allowed none =
        let steps = StepsFrom-from_allowed state p allowed in
        let r : ℕ = steps.from in
        let within : p < n = subst (λ (n : ℕ). p < n) each (some_within state.places p r steps.at) in
        let first : 0 + r ≡ r = omega arith in
        let more : on_way p (Some (suc r)) ≡ on_way p (Some r) + needs false p r =
        sum_more (needs false p) 0 r ∙ ap (λ (k : ℕ). on_way p (Some r) + needs false p k) first in
        let here : on_way p (place_at p (after state (Step p))) ≡ needs false p r + on_way p (place_at p state) =
        (let now : on_way p (place_at p (after state (Step p))) ≡ on_way p (Some (r + 1)) = ap (on_way p) (place_after_own state p r steps.at) in
        let was : on_way p (place_at p state) ≡ on_way p (Some r) = ap (on_way p) steps.at in
        let one : on_way p (Some (r + 1)) ≡ on_way p (Some (suc r)) = ap (λ (k : ℕ). on_way p (Some k)) (let e : r + 1 ≡ suc r = omega arith in e) in
        omega (arith, now, was, one, more)) in
        let counts : counts_by needs (λ p. false) state (Step p) ≡ needs false p r =
        ap (λ (place : Option ℕ). elim place as (λ _. ℕ) [ None ↦ 0 | Some r ↦ needs false p r ]) steps.at in
        let sums : all_on_way (after state (Step p)) ≡ needs false p r + all_on_way state =
        sum_changed (λ q. on_way q (place_at q (after state (Step p)))) (λ q. on_way q (place_at q state)) 0 n p (needs false p r)
        (omega arith) (omega (arith, within)) here (λ q apart. ap (on_way q) (place_after_other state p q apart)) in
        record {
          counted = omega (arith, sums, counts);
          there = λ q below. elim (cases_eq q p) [
            | inl same ↦ ap (λ (q : ℕ). is_some (place_at q (after state (Step p)))) same ∙ ap is_some (place_after_own state p r steps.at)
            | inr apart ↦ ap is_some (place_after_other state p q apart) ∙ there q below
          ];
        }
    goes state (Lose w) each there allowed none = absurd (cc)
    goes state (Host p w) each there allowed none = record { counted = omega arith; there = there }
    goes state (Restore p r) each there allowed none =
        let may : (is_partition p state ≡ true) × ((not (is_some (place_at p state)) && _) ≡ true) = and_parts (is_partition p state) _ (and_parts (not state.ended) _ allowed).1 in
        let within : p < n = subst (λ (n : ℕ). p < n) each (ltb-true p (length state.places) may.0) in
        let lost : is_some (place_at p state) ≡ false = not-true (is_some (place_at p state)) (and_parts (not (is_some (place_at p state))) _ may.1).0 in
        absurd (true≢false (sym (there p within) ∙ lost))
    goes state (Save p) each there allowed none = record { counted = omega arith; there = there }
    goes state (Close Next) each there allowed none = record { counted = omega arith; there = there }
    goes state (Close Ended) each there allowed none = record { counted = omega arith; there = there }

    goes_all : (state : State) (events : List Event) → length state.places ≡ n → AllThere state → are_allowed state events ≡ true → losses_in state events ≡ []
        → Goes state (after_all state events) (counts_in needs (λ p. false) state events)
    goes_all state [] each there allowed none = goes_same state there
    goes_all state (e ∷ es) each there allowed none =
        let a : (is_allowed state e ≡ true) × (are_allowed (after state e) es ≡ true) = and_parts _ _ allowed in
        let parts : (lost_by state e ≡ []) × (losses_in (after state e) es ≡ []) = nothing_first (lost_by state e) (losses_in (after state e) es) none in
        let one : Goes state (after state e) (counts_by needs (λ p. false) state e) = goes state e each there a.0 parts.0 in
        let rest : Goes (after state e) (after_all (after state e) es) (counts_in needs (λ p. false) (after state e) es) =
        goes_all (after state e) es (length-places state e ∙ each) one.there a.1 parts.1 in
        let same : counts_in needs (λ p. false) (after state e) es ≡ counts_in needs (λ p. false || takes p state e) (after state e) es =
        counts_in-same (λ p. false) (λ p. false || takes p state e) (after state e) es (λ p. sym (takes_none p state e parts.0)) in
        record { counted = omega (arith, one.counted, rest.counted, same); there = rest.there }

    -- where nobody falls no partition is restored
    all_anew : (state : State) (events : List Event) → length state.places ≡ n → AllThere state → are_allowed state events ≡ true → losses_in state events ≡ []
        → list_all is_anew events ≡ true
    all_anew state [] each there allowed none = refl
    all_anew state (e ∷ es) each there allowed none =
        let a : (is_allowed state e ≡ true) × (are_allowed (after state e) es ≡ true) = and_parts _ _ allowed in
        let parts : (lost_by state e ≡ []) × (losses_in (after state e) es ≡ []) = nothing_first (lost_by state e) (losses_in (after state e) es) none in
        let one : Goes state (after state e) (counts_by needs (λ p. false) state e) = goes state e each there a.0 parts.0 in
        and_from (is_anew e) (list_all is_anew es) (anew e a.0) (all_anew (after state e) es (length-places state e ∙ each) one.there a.1 parts.1)
      where
        anew : (event : Event) → is_allowed state event ≡ true → is_anew event ≡ true
        anew (Step p) may = refl
        anew (Lose w) may = refl
        anew (Host p w) may = refl
        anew (Restore p r) may =
            let parts : (is_partition p state ≡ true) × ((not (is_some (place_at p state)) && _) ≡ true) = and_parts (is_partition p state) _ (and_parts (not state.ended) _ may).1 in
            let within : p < n = subst (λ (n : ℕ). p < n) each (ltb-true p (length state.places) parts.0) in
            let lost : is_some (place_at p state) ≡ false = not-true (is_some (place_at p state)) (and_parts (not (is_some (place_at p state))) _ parts.1).0 in
            absurd (true≢false (sym (there p within) ∙ lost))
        anew (Save p) may = refl
        anew (Close closed) may = refl

  -- in a run in which nobody fell, no partition is restored
  pub unlost_anew : (n workers : ℕ) (events : List Event) (to : State) → Reaches (first_state n workers) events to
      → losses_in (first_state n workers) events ≡ [] → list_all is_anew events ≡ true
  unlost_anew n workers events to reaches none =
      all_anew n (first_state n workers) events (length-first n workers) (λ p within. ap is_some (starts_at n workers p within)) reaches.allowed none

  -- in a run that has ended, in which nobody fell, each partition has counted what it needs in each superstep
  pub unlost_counts : (n workers : ℕ) (events : List Event) (to : State) → Reaches (first_state n workers) events to → to.ended ≡ true
      → losses_in (first_state n workers) events ≡ []
      → counts_in needs (λ p. false) (first_state n workers) events
      ≡ sum_by (λ p. sum_by (needs false p) (range_with_len 0 (to.current + 1))) (range_with_len 0 n)
  unlost_counts n workers events to reaches ended none =
      let from : State = first_state n workers in
      let gone : Goes n from (after_all from events) (counts_in needs (λ p. false) from events) =
      goes_all n from events (length-first n workers) (λ p within. ap is_some (starts_at n workers p within)) reaches.allowed none in
      let first : all_on_way n from ≡ 0 =
      sum_same (λ p. on_way p (place_at p from)) (λ (p : ℕ). 0) 0 n (λ p past below. ap (on_way p) (starts_at n workers p (omega (arith, below)))) ∙ sum_none 0 n in
      let last : all_on_way n (after_all from events) ≡ sum_by (λ p. sum_by (needs false p) (range_with_len 0 (to.current + 1))) (range_with_len 0 n) =
      ap (all_on_way n) reaches.leads
      ∙ sum_same (λ p. on_way p (place_at p to)) (λ p. sum_by (needs false p) (range_with_len 0 (to.current + 1))) 0 n
      (λ p past below. ap (on_way p) (place_at_end n workers events to reaches ended p (omega (arith, below)))) in
      omega (arith, gone.counted, first, last)
