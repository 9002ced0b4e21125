-- The laws of losses in lists of events.
use Rattle.std.proofs.Common.{◌≡◌, ℕ, zero, suc, ◌+◌, ◌%◌, ◌<◌, ◌≤◌, ◌≢◌, Bool, true, false, cond, not, ◌||◌, ◌&&◌, List, [], ◌∷◌, ◌++◌, length, get_or, set, refl}
use Rattle.std.proofs.Common.{ap, ap₂, sym, ◌∙◌, subst, arith, Option, None, Some, is_some, inl, inr, map}
use Rattle.std.specs.Prelude.{◌==◌, slice_index_or, nat_lt}
use Rattle.std.specs.List.{list_all, count_by, range_with_len, sum_by}
use Rattle.std.proofs.lemmas.Bool.{and_parts, and_from, cond-false, eqb-true, eq-eqb, ne_eqb, ltb-true, true≢false, not-true, both_ways, cases_eq, cases_lt, cases_Bool}
use Rattle.std.proofs.lemmas.List.{length-set, get_or-set_same, get_or-set_other, get_or_past, append-nil, append_assoc}
use Rattle.std.proofs.lemmas.List.FromFn.{get_or-map-range_with_len, length-map-range_with_len}
use Rattle.std.proofs.lemmas.List.Sums.{sum_by-append, sum_by-cons}
use Rattle.std.proofs.lemmas.Option.{same_Some}
use Rattle.pg_core_machine.specs.Machine.{State, first_state, host_of, place_at, is_alive, is_at, is_partition, saved_at, may_happen, is_allowed, places_without, after, after_all, are_allowed}
use Rattle.pg_core_machine.specs.Machine.{Reaches, takes, was_lost}
use Rattle.pg_core_machine.specs.Losses.{least_hosted, losses_in, lost_by, falls_of, counts_by, counts_in}
use Rattle.pg_core_machine.specs.declared.event.Closed.TheVariants.{Next, Ended}
use Rattle.pg_core_machine.specs.declared.event.Event.{Event}
use Rattle.pg_core_machine.specs.declared.event.Event.TheVariants.{Step, Lose, Host, Restore, Save, Close}
use Rattle.pg_core_machine.proofs.LawsMachine.{length-places, length-places_all, length-hosts_all, length-hosts_first, length-first, place_after_lose, place_at_end, some_within}
use Rattle.pg_core_machine.proofs.LawsSteps.{StepsFrom-from_allowed, place_after_other, place_after_own}

-- ---- one event more

-- it adds its own loss
pub losses_in-push : (state : State) (events : List Event) (event : Event)
    → losses_in state (events ++ event ∷ []) ≡ losses_in state events ++ lost_by (after_all state events) event
losses_in-push state [] event = append-nil (lost_by state event)
losses_in-push state (e ∷ es) event =
    ap (λ l. lost_by state e ++ l) (losses_in-push (after state e) es event)
    ∙ sym (append_assoc (lost_by state e) (losses_in (after state e) es) (lost_by (after_all (after state e) es) event))

-- the same by where the events led
pub losses_in-more : (from to : State) (events : List Event) (event : Event) → Reaches from events to
    → losses_in from (events ++ event ∷ []) ≡ losses_in from events ++ lost_by to event
losses_in-more from to events event reaches =
    losses_in-push from events event ∙ ap (λ (s : State). losses_in from events ++ lost_by s event) reaches.leads

module _ (needs : Bool → ℕ → ℕ → ℕ) where
  -- what an event counts goes by the partitions that were lost
  pub counts_by-same : (a b : ℕ → Bool) (state : State) (event : Event) → ((p : ℕ) → a p ≡ b p) → counts_by needs a state event ≡ counts_by needs b state event
  counts_by-same a b state (Step p) same =
      ap (λ (lost : Bool). elim (place_at p state) as (λ _. ℕ) [ None ↦ 0 | Some r ↦ needs lost p r ]) (same p)
  counts_by-same a b state (Lose w) same = refl
  counts_by-same a b state (Host p w) same = refl
  counts_by-same a b state (Restore p r) same = refl
  counts_by-same a b state (Save p) same = refl
  counts_by-same a b state (Close answer) same = refl

  or_more : (a b c : Bool) → ((a || b) || c) ≡ (a || (b || c))
  or_more true b c = refl
  or_more false b c = refl

  or_none : (b : Bool) → (b || false) ≡ b
  or_none true = refl
  or_none false = refl

  -- and adds what it counts
  pub counts_in-push : (lost : ℕ → Bool) (state : State) (events : List Event) (event : Event)
      → counts_in needs lost state (events ++ event ∷ [])
      ≡ counts_in needs lost state events + counts_by needs (λ p. lost p || was_lost p state events) (after_all state events) event
  counts_in-push lost state [] event =
      let same : counts_by needs lost state event ≡ counts_by needs (λ p. lost p || false) state event =
      counts_by-same lost (λ p. lost p || false) state event (λ p. sym (or_none (lost p))) in
      omega (arith, same)
  counts_in-push lost state (e ∷ es) event =
      let further : ℕ → Bool = λ p. lost p || takes p state e in
      let same : counts_by needs (λ p. further p || was_lost p (after state e) es) (after_all (after state e) es) event
      ≡ counts_by needs (λ p. lost p || was_lost p state (e ∷ es)) (after_all state (e ∷ es)) event =
      counts_by-same (λ p. further p || was_lost p (after state e) es) (λ p. lost p || was_lost p state (e ∷ es)) (after_all (after state e) es) event
      (λ p. or_more (lost p) (takes p state e) (was_lost p (after state e) es)) in
      omega (arith, counts_in-push further (after state e) es event, same)

  -- from the beginning, by where the events led
  pub counts_in-more : (from to : State) (events : List Event) (event : Event) → Reaches from events to
      → counts_in needs (λ p. false) from (events ++ event ∷ [])
      ≡ counts_in needs (λ p. false) from events + counts_by needs (λ p. was_lost p from events) to event
  counts_in-more from to events event reaches =
      counts_in-push (λ p. false) from events event
      ∙ ap (λ (s : State). counts_in needs (λ p. false) from events + counts_by needs (λ p. was_lost p from events) s event) reaches.leads

-- ---- who is alive

-- one or none
abbrev pub if_so : Bool → ℕ
if_so b = cond b 1 0

abbrev pub if_not : Bool → ℕ
if_not b = cond b 0 1

falls_one : (w v : ℕ) (place : Option ℕ) → falls_of w ((v, place) ∷ []) ≡ if_so (v == w)
falls_one w v place = omega arith

pub alive_within : (xs : List Bool) (v : ℕ) → slice_index_or xs v false ≡ true → v < length xs
alive_within xs v is =
    elim (cases_lt v (length xs)) [
      | inl less ↦ less
      | inr more ↦ absurd (true≢false (sym is ∙ get_or_past xs v false more))
    ]

alive_after : (w : ℕ) (state : State) (event : Event) → is_allowed state event ≡ true
    → if_not (is_alive w (after state event)) ≡ if_not (is_alive w state) + falls_of w (lost_by state event)
alive_after w state (Step p) allowed = omega arith
alive_after w state (Lose v) allowed =
    let was : is_alive v state ≡ true = (and_parts _ _ allowed).1 in
    let one : falls_of w (lost_by state (Lose v)) ≡ if_so (v == w) = falls_one w v (least_hosted v state.hosts state.places) in
    elim (cases_eq v w) [
      | inl same ↦ (
          let gone : is_alive v (after state (Lose v)) ≡ false = get_or-set_same state.alive v false false (alive_within state.alive v was) in
          let gone_w : if_not (is_alive w (after state (Lose v))) ≡ 1 =
          ap (λ (b : Bool). if_not b) (ap (λ (u : ℕ). is_alive u (after state (Lose v))) (sym same) ∙ gone) in
          let was_w : if_not (is_alive w state) ≡ 0 = ap (λ (b : Bool). if_not b) (ap (λ (u : ℕ). is_alive u state) (sym same) ∙ was) in
          let counts : if_so (v == w) ≡ 1 = ap (λ (b : Bool). if_so b) (eq-eqb v w same) in
          omega (arith, gone_w, was_w, counts, one)
          )
      | inr other ↦ (
          let stays : if_not (is_alive w (after state (Lose v))) ≡ if_not (is_alive w state) =
          ap (λ (b : Bool). if_not b) (get_or-set_other state.alive v w false false (λ e. other (sym e))) in
          let counts : if_so (v == w) ≡ 0 = ap (λ (b : Bool). if_so b) (ne_eqb v w other) in
          omega (arith, stays, counts, one)
          )
    ]
alive_after w state (Host p v) allowed = omega arith
alive_after w state (Restore p r) allowed = omega arith
alive_after w state (Save p) allowed = omega arith
alive_after w state (Close Next) allowed = omega arith
alive_after w state (Close Ended) allowed = omega arith

alive_after_all : (w : ℕ) (state : State) (events : List Event) → are_allowed state events ≡ true
    → if_not (is_alive w (after_all state events)) ≡ if_not (is_alive w state) + falls_of w (losses_in state events)
alive_after_all w state [] allowed = omega arith
alive_after_all w state (e ∷ es) allowed =
    let a : (is_allowed state e ≡ true) × (are_allowed (after state e) es ≡ true) = and_parts _ _ allowed in
    omega (
      arith,
      alive_after w state e a.0,
      alive_after_all w (after state e) es a.1,
      sum_by-append (λ (l : ℕ × Option ℕ). cond (l.0 == w) 1 0) (lost_by state e) (losses_in (after state e) es),
    )

module _ (partitions workers : ℕ) (events : List Event) (to : State) (reaches : Reaches (first_state partitions workers) events to) where
  -- each worker that isn't alive fell once, and no other
  pub fell_once : (w : ℕ) → w < workers → falls_of w (losses_in (first_state partitions workers) events) ≡ if_not (is_alive w to)
  fell_once w within =
      let from : State = first_state partitions workers in
      let none : 0 + w ≡ w = omega arith in
      let first : is_alive w from ≡ true = get_or-map-range_with_len (λ (w : ℕ). true) 0 workers w w false within none in
      let at_first : if_not (is_alive w from) ≡ 0 = ap (λ (b : Bool). if_not b) first in
      let at_last : if_not (is_alive w (after_all from events)) ≡ if_not (is_alive w to) =
      ap (λ (s : State). if_not (is_alive w s)) reaches.leads in
      omega (arith, alive_after_all w from events reaches.allowed, at_first, at_last)

-- ---- a partition that has a place has a host that is alive

abbrev HaveHosts : State → Type 0
HaveHosts state = (p r : ℕ) → place_at p state ≡ Some r → is_alive (host_of p state) state ≡ true

HaveHosts-after : (state : State) (event : Event) → length state.hosts ≡ length state.places → is_allowed state event ≡ true → HaveHosts state
    → HaveHosts (after state event)
HaveHosts-after state (Step q) each allowed have p r at =
    elim (cases_eq p q) [
      | inl same ↦ (
          let steps = StepsFrom-from_allowed state q allowed in
          have p steps.from (ap (λ (p : ℕ). place_at p state) same ∙ steps.at)
          )
      | inr other ↦ have p r (sym (place_after_other state q p other) ∙ at)
    ]
HaveHosts-after state (Lose w) each allowed have p r at = by (host_of p state == w) refl (sym (place_after_lose state w p each) ∙ at)
  where
    by : (b : Bool) → (host_of p state == w) ≡ b → cond b None (place_at p state) ≡ Some r → is_alive (host_of p state) (after state (Lose w)) ≡ true
    by true is h = absurd (let k : None ≡ Some r = h in cc)
    by false is h =
        let apart : host_of p state ≢ w = λ e. true≢false (sym (eq-eqb (host_of p state) w e) ∙ is) in
        get_or-set_other state.alive w (host_of p state) false false apart ∙ have p r h
HaveHosts-after state (Host q v) each allowed have p r at =
    let alive : is_alive v state ≡ true = (and_parts (is_partition q state) (is_alive v state) (and_parts (not state.ended) _ allowed).1).1 in
    elim (cases_eq p q) [
      | inl same ↦ (
          let within : p < length state.hosts = subst (λ (n : ℕ). p < n) (sym each) (some_within state.places p r at) in
          let now : host_of p (after state (Host q v)) ≡ v =
          subst (λ (q : ℕ). get_or (set state.hosts q v) p 0 ≡ v) same (get_or-set_same state.hosts p v 0 within) in
          ap (λ (u : ℕ). is_alive u state) now ∙ alive
          )
      | inr other ↦ ap (λ (u : ℕ). is_alive u state) (get_or-set_other state.hosts q p v 0 other) ∙ have p r at
    ]
HaveHosts-after state (Restore q s) each allowed have p r at =
    elim (cases_eq p q) [
      | inl same ↦ (
          let alive : is_alive (host_of q state) state ≡ true =
          (and_parts (is_alive (host_of q state) state) _ (and_parts (not (is_some (place_at q state))) _
          (and_parts (is_partition q state) _ (and_parts (not state.ended) _ allowed).1).1).1).0 in
          ap (λ (u : ℕ). is_alive (host_of u state) state) same ∙ alive
          )
      | inr other ↦ have p r (sym (get_or-set_other state.places q p (Some s) None other) ∙ at)
    ]
HaveHosts-after state (Save q) each allowed have p r at = have p r at
HaveHosts-after state (Close Next) each allowed have p r at = have p r at
HaveHosts-after state (Close Ended) each allowed have p r at = have p r at

length-alive_all : (state : State) (events : List Event) → length (after_all state events).alive ≡ length state.alive
length-alive_all state [] = refl
length-alive_all state (e ∷ es) = length-alive_all (after state e) es ∙ one e
  where
    one : (e : Event) → length (after state e).alive ≡ length state.alive
    one (Step p) = refl
    one (Lose w) = length-set state.alive w false
    one (Host p w) = refl
    one (Restore p r) = refl
    one (Save p) = refl
    one (Close Next) = refl
    one (Close Ended) = refl

hosts_as_places : (state : State) (event : Event) → length state.hosts ≡ length state.places → length (after state event).hosts ≡ length (after state event).places
hosts_as_places state event each = length-hosts_all state (event ∷ []) ∙ (each ∙ sym (length-places_all state (event ∷ [])))

HaveHosts-after_all : (state : State) (events : List Event) → length state.hosts ≡ length state.places → are_allowed state events ≡ true → HaveHosts state
    → HaveHosts (after_all state events)
HaveHosts-after_all state [] each allowed have = have
HaveHosts-after_all state (e ∷ es) each allowed have =
    let a = and_parts _ _ allowed in
    HaveHosts-after_all (after state e) es (hosts_as_places state e each) a.1 (HaveHosts-after state e each a.0 have)

-- each worker that fell was one
abbrev pub AreWorkers : ℕ → List (ℕ × Option ℕ) → Type 0
AreWorkers workers [] = Unit {0}
AreWorkers workers (loss ∷ losses) = (loss.0 < workers) × AreWorkers workers losses

pub losses_are_workers : (state : State) (events : List Event) → are_allowed state events ≡ true → AreWorkers (length state.alive) (losses_in state events)
losses_are_workers state [] allowed = tt
losses_are_workers state (e ∷ es) allowed = by e (and_parts _ _ allowed).0
    (subst (λ (n : ℕ). AreWorkers n (losses_in (after state e) es)) (length-alive_all state (e ∷ [])) (losses_are_workers (after state e) es (and_parts _ _ allowed).1))
  where
    by : (event : Event) → is_allowed state event ≡ true → AreWorkers (length state.alive) (losses_in (after state e) es)
        → AreWorkers (length state.alive) (lost_by state event ++ losses_in (after state e) es)
    by (Step p) may rest = rest
    by (Lose w) may rest = (alive_within state.alive w (and_parts _ _ may).1, rest)
    by (Host p w) may rest = rest
    by (Restore p r) may rest = rest
    by (Save p) may rest = rest
    by (Close answer) may rest = rest

module _ (partitions : ℕ) (events : List Event) (to : State) where
  module _ (workers : ℕ) (reaches : Reaches (first_state partitions workers) events to) where
    first_alive : (w : ℕ) → w < workers → is_alive w (first_state partitions workers) ≡ true
    first_alive w within =
        let none : 0 + w ≡ w = omega arith in
        get_or-map-range_with_len (λ (w : ℕ). true) 0 workers w w false within none

    -- a partition that has a place has a host that is alive, and that is one of the workers
    pub host_is_alive : 0 < workers → (p r : ℕ) → place_at p to ≡ Some r → is_alive (host_of p to) to ≡ true
    host_is_alive some p r at =
        let from : State = first_state partitions workers in
        let at_first : HaveHosts from =
        λ p r at. (let within : p < partitions = subst (λ (n : ℕ). p < n) (length-first partitions workers) (some_within from.places p r at) in
        let none : 0 + p ≡ p = omega arith in
        let host : host_of p from ≡ p % workers = get_or-map-range_with_len (λ (p : ℕ). p % workers) 0 partitions p p 0 within none in
        let less : p % workers < workers = omega (arith, some) in
        ap (λ (u : ℕ). is_alive u from) host ∙ first_alive (p % workers) less) in
        let all : HaveHosts (after_all from events) =
        HaveHosts-after_all from events (length-hosts_first partitions workers ∙ sym (length-first partitions workers)) reaches.allowed at_first in
        subst HaveHosts reaches.leads all p r at

  -- with one worker nobody fell in a run that has ended
  pub none_fell_of_one : 0 < partitions → Reaches (first_state partitions 1) events to → to.ended ≡ true → losses_in (first_state partitions 1) events ≡ []
  none_fell_of_one some reaches ended =
      let from : State = first_state partitions 1 in
      let one : 0 < 1 = omega arith in
      let many : length from.alive ≡ 1 = length-map-range_with_len (λ (w : ℕ). true) 0 1 in
      let many_at_end : length to.alive ≡ 1 = ap (λ (s : State). length s.alive) (sym reaches.leads) ∙ (length-alive_all from events ∙ many) in
      let alive : is_alive (host_of 0 to) to ≡ true = host_is_alive 1 reaches one 0 (to.current + 1) (place_at_end partitions 1 events to reaches ended 0 some) in
      let within : host_of 0 to < length to.alive = alive_within to.alive (host_of 0 to) alive in
      let zero_is : host_of 0 to ≡ 0 = omega (arith, within, many_at_end) in
      let zero_alive : is_alive 0 to ≡ true = subst (λ (u : ℕ). is_alive u to ≡ true) zero_is alive in
      let never : falls_of 0 (losses_in from events) ≡ 0 =
      fell_once partitions 1 events to reaches 0 one ∙ ap (λ (b : Bool). if_not b) zero_alive in
      none (losses_in from events) (subst (λ (n : ℕ). AreWorkers n (losses_in from events)) many (losses_are_workers from events reaches.allowed)) never
    where
      none : (losses : List (ℕ × Option ℕ)) → AreWorkers 1 losses → falls_of 0 losses ≡ 0 → losses ≡ []
      none [] are never = refl
      none (loss ∷ losses) are never =
          let is : loss.0 ≡ 0 = omega (arith, are.0) in
          let counts : if_so (loss.0 == 0) ≡ 1 = ap (λ (b : Bool). if_so b) (eq-eqb loss.0 0 is) in
          absurd (omega (arith, never, counts, sum_by-cons (λ (l : ℕ × Option ℕ). cond (l.0 == 0) 1 0) loss losses))
