-- The laws of the status machine.
use Rattle.std.proofs.Common.{◌≡◌, ℕ, zero, suc, ◌+◌, ◌%◌, ◌<◌, ◌≢◌, Bool, true, false, cond, not, ◌||◌, ◌&&◌, List, [], ◌∷◌, ◌++◌, length, take, get_or, set, refl}
use Rattle.std.proofs.Common.{ap, sym, ◌∙◌, subst, arith, zero-add, Option, None, Some, is_some, inl, inr}
use Rattle.std.specs.Prelude.{◌==◌, slice_index_or}
use Rattle.std.specs.List.{list_all}
use Rattle.std.specs.Option.{option_map}
use Rattle.std.proofs.lemmas.Bool.{and_parts, and_from, or_parts, cond-false, eqb-true, eq-eqb, ne_eqb, ltb-true, true≢false, not-true, both_ways}
use Rattle.std.proofs.lemmas.Bool.{cases_eq, cases_lt, cases_Bool}
use Rattle.std.proofs.lemmas.List.{length-set, get_or-set_same, get_or-set_other, get_or_past}
use Rattle.std.proofs.lemmas.List.FromFn.{get_or-map-range_with_len, length-map-range_with_len}
use Rattle.std.proofs.lemmas.List.Sums.{AllPass-from_list_all, sum_by-cons}
use Rattle.pg_core_machine.specs.Machine.{State, first_state, host_of, place_at, is_at, may_happen, is_allowed, places_without, after, after_all, are_allowed}
use Rattle.pg_core_machine.specs.Machine.{Reaches, takes, was_lost, is_step, steps_of, RestoresFollowLosses, StepsTell}
use Rattle.pg_core_machine.specs.declared.event.Closed.TheVariants.{Next, Ended}
use Rattle.pg_core_machine.specs.declared.event.Event.{Event}
use Rattle.pg_core_machine.specs.declared.event.Event.TheVariants.{Step, Lose, Host, Restore, Save, Close}

-- ---- lists of events

after_all-push : (state : State) (events : List Event) (event : Event) → after_all state (events ++ event ∷ []) ≡ after (after_all state events) event
after_all-push state [] event = refl
after_all-push state (e ∷ es) event = after_all-push (after state e) es event

are_allowed-append : (state : State) (before later : List Event)
    → are_allowed state (before ++ later) ≡ (are_allowed state before && are_allowed (after_all state before) later)
are_allowed-append state [] later = refl
are_allowed-append state (e ∷ es) later =
    elim (is_allowed state e) as
    (λ b. (b && are_allowed (after state e) (es ++ later)) ≡ ((b && are_allowed (after state e) es) && are_allowed (after_all (after state e) es) later)) [
      | true ↦ are_allowed-append (after state e) es later
      | false ↦ refl
    ]

or_none : (b : Bool) → (b || false) ≡ b
or_none true = refl
or_none false = refl

or_more : (a b c : Bool) → (a || (b || c)) ≡ ((a || b) || c)
or_more true b c = refl
or_more false b c = refl

-- with one event more a partition was lost where it was before, or where that event takes it
pub was_lost-push : (p : ℕ) (state : State) (events : List Event) (event : Event)
    → was_lost p state (events ++ event ∷ []) ≡ (was_lost p state events || takes p (after_all state events) event)
was_lost-push p state [] event = or_none (takes p state event)
was_lost-push p state (e ∷ es) event =
    ap (λ (b : Bool). takes p state e || b) (was_lost-push p (after state e) es event)
    ∙ or_more (takes p state e) (was_lost p (after state e) es) (takes p (after_all (after state e) es) event)

-- the same by where the events led
pub was_lost-more : (p : ℕ) (from to : State) (events : List Event) (event : Event) → Reaches from events to
    → was_lost p from (events ++ event ∷ []) ≡ (was_lost p from events || takes p to event)
was_lost-more p from to events event reaches =
    was_lost-push p from events event ∙ ap (λ (s : State). was_lost p from events || takes p s event) reaches.leads

-- nothing changes by an event that doesn't take it
pub was_lost-stays : (p : ℕ) (from to : State) (events : List Event) (event : Event) → Reaches from events to → takes p to event ≡ false
    → was_lost p from (events ++ event ∷ []) ≡ was_lost p from events
was_lost-stays p from to events event reaches stays =
    was_lost-more p from to events event reaches ∙ (ap (λ (b : Bool). was_lost p from events || b) stays ∙ or_none (was_lost p from events))

-- no event has happened yet
pub Reaches-none : (state : State) → Reaches state [] state
Reaches-none state = record { allowed = refl; leads = refl }

-- one more event
pub Reaches-push : (from to : State) (events : List Event) (event : Event) → Reaches from events to → is_allowed to event ≡ true
    → Reaches from (events ++ event ∷ []) (after to event)
Reaches-push from to events event r allowed = record {
  allowed = are_allowed-append from events (event ∷ [])
      ∙ and_from _ _ r.allowed (and_from _ _ (subst (λ (state : State). is_allowed state event ≡ true) (sym r.leads) allowed) refl);
  leads = after_all-push from events event ∙ ap (λ (state : State). after state event) r.leads;
}

-- a list of events leads to one state
pub Reaches-one : (from a b : State) (events : List Event) → Reaches from events a → Reaches from events b → a ≡ b
Reaches-one from a b events r s = sym r.leads ∙ s.leads

-- no event follows the end
pub nothing_after_end : (state : State) (event : Event) → state.ended ≡ true → is_allowed state event ≡ false
nothing_after_end state event ended = ap (λ (b : Bool). not b && may_happen state event) ended

-- ---- places

length-places_without : (w : ℕ) (hosts : List ℕ) (places : List (Option ℕ)) → length (places_without w hosts places) ≡ length places
length-places_without w [] places = refl
length-places_without w (host ∷ hosts) [] = refl
length-places_without w (host ∷ hosts) (place ∷ places) = ap suc (length-places_without w hosts places)

-- there are as many partitions after an event
pub length-places : (state : State) (event : Event) → length (after state event).places ≡ length state.places
length-places state (Step p) = length-set state.places p _
length-places state (Lose w) = length-places_without w state.hosts state.places
length-places state (Host p w) = refl
length-places state (Restore p r) = length-set state.places p (Some r)
length-places state (Save p) = refl
length-places state (Close Next) = refl
length-places state (Close Ended) = refl

pub length-places_all : (state : State) (events : List Event) → length (after_all state events).places ≡ length state.places
length-places_all state [] = refl
length-places_all state (e ∷ es) = length-places_all (after state e) es ∙ length-places state e

-- a partition that another worker hosts stays where it is
place_without : (w p : ℕ) (hosts : List ℕ) (places : List (Option ℕ)) → (slice_index_or hosts p 0 == w) ≡ false
    → get_or (places_without w hosts places) p None ≡ get_or places p None
place_without w p [] places e = refl
place_without w p (host ∷ hosts) [] e = refl
place_without w zero (host ∷ hosts) (place ∷ places) e = cond-false (host == w) None place e
place_without w (suc p) (host ∷ hosts) (place ∷ places) e = place_without w p hosts places e

either_same : {X : Type 0} (b : Bool) (x : X) → cond b x x ≡ x
either_same true x = refl
either_same false x = refl

places_without-at : (w p : ℕ) (hosts : List ℕ) (places : List (Option ℕ)) → length hosts ≡ length places
    → get_or (places_without w hosts places) p None ≡ cond (slice_index_or hosts p 0 == w) None (get_or places p None)
places_without-at w p [] [] same = sym (either_same (0 == w) None)
places_without-at w p [] (place ∷ places) same = absurd (omega (arith, same))
places_without-at w p (host ∷ hosts) [] same = absurd (omega (arith, same))
places_without-at w zero (host ∷ hosts) (place ∷ places) same = refl
places_without-at w (suc p) (host ∷ hosts) (place ∷ places) same = places_without-at w p hosts places (omega (arith, same))

-- by one host more
pub without_next : (w : ℕ) (hosts : List ℕ) (places : List (Option ℕ)) (i d : ℕ) → i < length hosts
    → places_without w (take (suc i) hosts) places
    ≡ cond (get_or hosts i d == w) (set (places_without w (take i hosts) places) i None) (places_without w (take i hosts) places)
without_next w [] places i d below = absurd (omega (arith, below))
without_next w (host ∷ hosts) [] zero d below = sym (either_same (host == w) [])
without_next w (host ∷ hosts) (place ∷ places) zero d below =
    elim (host == w) as
    (λ b. (cond b None place ∷ places_without w [] places) ≡ cond b (set (place ∷ places) 0 None) (place ∷ places)) [ true ↦ refl | false ↦ refl ]
without_next w (host ∷ hosts) [] (suc i) d below = sym (either_same (get_or hosts i d == w) [])
without_next w (host ∷ hosts) (place ∷ places) (suc i) d below =
    let first : Option ℕ = cond (host == w) None place in
    let rest : List (Option ℕ) = places_without w (take i hosts) places in
    ap (λ l. first ∷ l) (without_next w hosts places i d (omega (arith, below)))
    ∙ (elim (get_or hosts i d == w) as
    (λ b. (first ∷ cond b (set rest i None) rest) ≡ cond b (set (first ∷ rest) (suc i) None) (first ∷ rest)) [ true ↦ refl | false ↦ refl ])

-- where a worker's fall leaves a partition, where each has a host
pub place_after_lose : (state : State) (w p : ℕ) → length state.hosts ≡ length state.places
    → place_at p (after state (Lose w)) ≡ cond (host_of p state == w) None (place_at p state)
place_after_lose state w p same = places_without-at w p state.hosts state.places same

-- there are as many hosts after an event
length-hosts : (state : State) (event : Event) → length (after state event).hosts ≡ length state.hosts
length-hosts state (Step p) = refl
length-hosts state (Lose w) = refl
length-hosts state (Host p w) = length-set state.hosts p w
length-hosts state (Restore p r) = refl
length-hosts state (Save p) = refl
length-hosts state (Close Next) = refl
length-hosts state (Close Ended) = refl

pub length-hosts_all : (state : State) (events : List Event) → length (after_all state events).hosts ≡ length state.hosts
length-hosts_all state [] = refl
length-hosts_all state (e ∷ es) = length-hosts_all (after state e) es ∙ length-hosts state e

-- what is at a place is within the list
pub some_within : {X : Type 0} (xs : List (Option X)) (p : ℕ) (x : X) → get_or xs p None ≡ Some x → p < length xs
some_within xs p x e =
    elim (cases_lt p (length xs)) [
      | inl less ↦ less
      | inr more ↦ (let none : get_or xs p None ≡ None = get_or_past xs p None more in absurd (cc))
    ]

-- how far one event takes a partition
module _ (p k : ℕ) where
  place_after : (state : State) (event : Event) → is_allowed state event ≡ true → takes p state event ≡ false → place_at p state ≡ Some k
      → place_at p (after state event) ≡ Some (k + cond (is_step p event) 1 0)
  place_after state (Step q) allowed kept here =
      elim (cases_eq q p) [
        | inl same ↦ (
            let within : p < length state.places = some_within state.places p k here in
            let counts : (q == p) ≡ true = eq-eqb q p same in
            subst (λ (q : ℕ). get_or (set state.places q (option_map (λ r. r + 1) (get_or state.places q None))) p None ≡ Some (k + 1)) (sym same)
            (get_or-set_same state.places p _ None within ∙ ap (option_map (λ r. r + 1)) here)
            ∙ ap (λ (b : Bool). Some (k + cond b 1 0)) (sym counts)
            )
        | inr other ↦ (
            let apart : p ≢ q = λ e. other (sym e) in
            let counts : (q == p) ≡ false = ne_eqb q p other in
            let none : k ≡ k + 0 = omega arith in
            get_or-set_other state.places q p _ None apart ∙ (here ∙ ap Some none)
            ∙ ap (λ (b : Bool). Some (k + cond b 1 0)) (sym counts)
            )
      ]
  place_after state (Lose w) allowed kept here =
      let none : k ≡ k + 0 = omega arith in
      place_without w p state.hosts state.places kept ∙ (here ∙ ap Some none)
  place_after state (Host q w) allowed kept here = let none : k ≡ k + 0 = omega arith in here ∙ ap Some none
  place_after state (Restore q r) allowed kept here =
      let none : k ≡ k + 0 = omega arith in
      let lost : not (is_some (place_at q state)) ≡ true = (and_parts _ _ (and_parts _ _ (and_parts _ _ allowed).1).1).0 in
      let apart : p ≢ q =
      λ e. let there : is_some (place_at q state) ≡ true = ap (λ (q : ℕ). is_some (place_at q state)) (sym e)
      ∙ ap is_some here in true≢false (sym there ∙ not-true _ lost) in
      get_or-set_other state.places q p _ None apart ∙ (here ∙ ap Some none)
  place_after state (Save q) allowed kept here = let none : k ≡ k + 0 = omega arith in here ∙ ap Some none
  place_after state (Close Next) allowed kept here = let none : k ≡ k + 0 = omega arith in here ∙ ap Some none
  place_after state (Close Ended) allowed kept here = let none : k ≡ k + 0 = omega arith in here ∙ ap Some none

-- a partition that no event takes goes as far as it makes steps
place_by_steps_from : (p k : ℕ) (state : State) (events : List Event) → are_allowed state events ≡ true → was_lost p state events ≡ false
    → place_at p state ≡ Some k → place_at p (after_all state events) ≡ Some (k + steps_of p events)
place_by_steps_from p k state [] allowed kept here = let none : k ≡ k + 0 = omega arith in here ∙ ap Some none
place_by_steps_from p k state (e ∷ es) allowed kept here =
    let a : (is_allowed state e ≡ true) × (are_allowed (after state e) es ≡ true) = and_parts _ _ allowed in
    let l : (takes p state e ≡ false) × (was_lost p (after state e) es ≡ false) = or_parts _ _ kept in
    let one : ℕ = cond (is_step p e) 1 0 in
    let sums : k + one + steps_of p es ≡ k + steps_of p (e ∷ es) = omega (arith, sum_by-cons (λ e. cond (is_step p e) 1 0) e es) in
    place_by_steps_from p (k + one) (after state e) es a.1 l.1 (place_after p k state e a.0 l.0 here) ∙ ap Some sums

module _ (partitions workers : ℕ) where
  pub starts_at : (p : ℕ) → p < partitions → place_at p (first_state partitions workers) ≡ Some 0
  starts_at p within =
      let none : 0 + p ≡ p = omega arith in
      get_or-map-range_with_len (λ (p : ℕ). Some 0) 0 partitions p p None within none

  pub length-first : length (first_state partitions workers).places ≡ partitions
  length-first = length-map-range_with_len (λ (p : ℕ). Some 0) 0 partitions

  -- a partition that was not lost is at its number of steps
  pub place_by_steps : (p : ℕ) (events : List Event) (to : State) → Reaches (first_state partitions workers) events to → p < partitions
      → was_lost p (first_state partitions workers) events ≡ false → place_at p to ≡ Some (steps_of p events)
  place_by_steps p events to r within kept =
      ap (place_at p) (sym r.leads)
      ∙ (place_by_steps_from p 0 (first_state partitions workers) events r.allowed kept (starts_at p within) ∙ ap Some (zero-add (steps_of p events)))

  -- each partition has a host
  pub length-hosts_first : length (first_state partitions workers).hosts ≡ partitions
  length-hosts_first = length-map-range_with_len (λ (p : ℕ). p % workers) 0 partitions

  -- a partition that is nowhere was lost
  pub lost_where_nowhere : (p : ℕ) (events : List Event) (to : State) → Reaches (first_state partitions workers) events to → p < partitions
      → place_at p to ≡ None → was_lost p (first_state partitions workers) events ≡ true
  lost_where_nowhere p events to reaches within nowhere =
      elim (cases_Bool (was_lost p (first_state partitions workers) events)) [
        | inl was ↦ was
        | inr kept ↦ (
            let there : is_some (place_at p to) ≡ true = ap is_some (place_by_steps p events to reaches within kept) in
            absurd (true≢false (sym there ∙ ap is_some nowhere))
            )
      ]

  -- each Restore follows a Lose that took its partition
  pub restored_was_lost : (events : List Event) (to : State) → Reaches (first_state partitions workers) events to
      → RestoresFollowLosses (first_state partitions workers) events
  restored_was_lost events to reaches p r before later is =
      let from : State = first_state partitions workers in
      let at : State = after_all from before in
      let parts = and_parts _ _ (sym (are_allowed-append from before (Restore p r ∷ later)) ∙ (ap (are_allowed from) (sym is) ∙ reaches.allowed)) in
      let may = and_parts _ _ (and_parts _ _ (and_parts _ _ parts.1).0).1 in
      let within : p < partitions = subst (λ (n : ℕ). p < n) (length-places_all from before ∙ length-first) (ltb-true p _ may.0) in
      let lost : is_some (place_at p at) ≡ false = not-true _ (and_parts _ _ may.1).0 in
      elim (cases_Bool (was_lost p from before)) [
        | inl was ↦ was
        | inr kept ↦ (
            let there : place_at p at ≡ Some (0 + steps_of p before) = place_by_steps_from p 0 from before parts.0 kept (starts_at p within) in
            absurd (true≢false (sym (ap is_some there) ∙ lost))
            )
      ]

-- ---- the end

-- once the run has ended, all partitions are one past the last superstep
abbrev EndsTogether : State → Type 0
EndsTogether state = state.ended ≡ true → list_all (is_at (state.current + 1)) state.places ≡ true

EndsTogether-after : (state : State) (event : Event) → is_allowed state event ≡ true → EndsTogether (after state event)
EndsTogether-after state (Step p) allowed ended = absurd (both_ways _ (not-true _ (and_parts _ _ allowed).0) ended)
EndsTogether-after state (Lose w) allowed ended = absurd (both_ways _ (not-true _ (and_parts _ _ allowed).0) ended)
EndsTogether-after state (Host p w) allowed ended = absurd (both_ways _ (not-true _ (and_parts _ _ allowed).0) ended)
EndsTogether-after state (Restore p r) allowed ended = absurd (both_ways _ (not-true _ (and_parts _ _ allowed).0) ended)
EndsTogether-after state (Save p) allowed ended = absurd (both_ways _ (not-true _ (and_parts _ _ allowed).0) ended)
EndsTogether-after state (Close Next) allowed ended = absurd (both_ways _ (not-true _ (and_parts _ _ allowed).0) ended)
EndsTogether-after state (Close Ended) allowed ended = (and_parts _ _ allowed).1

EndsTogether-after_all : (state : State) (events : List Event) → EndsTogether state → are_allowed state events ≡ true → EndsTogether (after_all state events)
EndsTogether-after_all state [] together allowed = together
EndsTogether-after_all state (e ∷ es) together allowed =
    let a = and_parts _ _ allowed in
    EndsTogether-after_all (after state e) es (EndsTogether-after state e a.0) a.1

pub at_superstep : (r : ℕ) (place : Option ℕ) → is_at r place ≡ true → place ≡ Some r
at_superstep r None e = absurd (true≢false (sym e))
at_superstep r (Some k) e = ap Some (eqb-true k r e)

module _ (partitions workers : ℕ) (events : List Event) (to : State) (reaches : Reaches (first_state partitions workers) events to) where
  -- so there each partition is
  pub place_at_end : to.ended ≡ true → (p : ℕ) → p < partitions → place_at p to ≡ Some (to.current + 1)
  place_at_end ended p within =
      let from : State = first_state partitions workers in
      let together : EndsTogether to =
      subst EndsTogether reaches.leads (EndsTogether-after_all from events (λ e. absurd (true≢false (sym e))) reaches.allowed) in
      let many : length to.places ≡ partitions =
      ap (λ (s : State). length s.places) (sym reaches.leads) ∙ (length-places_all from events ∙ length-first partitions workers) in
      at_superstep (to.current + 1) (place_at p to)
      (AllPass-from_list_all (is_at (to.current + 1)) to.places (together ended) p None (subst (λ (n : ℕ). p < n) (sym many) within))

  pub StepsTell-from_Reaches : StepsTell partitions (first_state partitions workers) events to
  StepsTell-from_Reaches = record {
    place = λ p within kept. place_by_steps partitions workers p events to reaches within kept;
    all = λ ended p within kept.
        let here : Some (steps_of p events) ≡ Some (to.current + 1) =
        sym (place_by_steps partitions workers p events to reaches within kept) ∙ place_at_end ended p within in
        cc;
  }
