-- What losses, and what is done about them, leave of a run over partitions.
use Rattle.std.proofs.Common.{◌≡◌, ℕ, ◌+◌, ◌<◌, ◌≢◌, Bool, true, false, cond, ◌&&◌, List, [], ◌∷◌, ◌++◌, length, map, filter, All, get_or, set}
use Rattle.std.proofs.Common.{Result, Ok, Err, IfOk, Option, None, Some, is_some, refl, ap, sym, ◌∙◌, subst, arith, inl, inr}
use Rattle.std.specs.List.{range_with_len}
use Rattle.std.specs.Prelude.{◌==◌, nat_lt}
use Rattle.std.proofs.lemmas.Bool.{and_cases, and_left, and_parts, and_right, cases_Bool, cases_eq, cases_lt, cond-false, cond-true, eq-eqb}
use Rattle.std.proofs.lemmas.Bool.{le-ltb, lt-ltb, ltb-true, ne_eqb, not-true, true≢false}
use Rattle.std.proofs.lemmas.List.{get_or-set_other, get_or-set_same, get_or_past, length-set}
use Rattle.std.proofs.lemmas.List.Elements.{All-cons, All-nil}
use Rattle.std.proofs.lemmas.Option.{none-some, same_Some}
use Rattle.pg_core.specs.Losing.{AreLost, IsAsFound, IsForgotten, IsOf, place_found, with_event}
use Rattle.pg_core.specs.Progress.{HoldsAt, IsLawful, IsPartAt, IsRight, Progress, is_past, is_ready, kept_for, part_at, ready_of}
use Rattle.pg_core.specs.declared.run_totals.RunTotals.{RunTotals}
use Rattle.pg_core.proofs.Keeping.{IsRightWith-same, kept_more}
use Rattle.pg_part.specs.PartRun.{IsSentTo}
use Rattle.pg_global.specs.Registry.{Registered}
use Rattle.pg_graph.specs.Rows.{Rows}
use Rattle.pg_inbox.specs.LoggedBundle.{Slots, slot_at}
use Rattle.pg_core_machine.specs.Limits.{Limits}
use Rattle.pg_core_machine.specs.Machine.{Reaches, State, after, first_state, host_of, is_alive, is_allowed, is_partition, place_at}
use Rattle.pg_core_machine.specs.declared.event.Event.{Event}
use Rattle.pg_core_machine.specs.declared.event.Event.TheVariants.{Step, Lose, Host, Restore, Save}
use Rattle.pg_core_machine.proofs.LawsLosses.{host_is_alive}
use Rattle.pg_core_machine.proofs.LawsMachine.{Reaches-push, length-hosts_all, length-hosts_first, lost_where_nowhere, place_after_lose, some_within}
use Rattle.pg_core_machine.proofs.LawsSteps.{StepsFrom-from_allowed, length-places_lawful}
use Rattle.pg_model.specs.Job.{Job}
use Rattle.pg_model.specs.declared.view.Declared.{Declared}
use Rattle.pg_model.specs.declared.view.Visible.{Visible}
use Rattle.pg_part.specs.Part.{HoldsShare, PartState}

-- what follows from two things that are so of a value, if there is one
pub IfOk-both : {X E : Type 0} (r : Result X E) (A B C : X → Type 0) → ((x : X) → A x → B x → C x) → IfOk r A → IfOk r B → IfOk r C
IfOk-both (Ok x) A B C follows a b = follows x a b
IfOk-both (Err e) A B C follows a b = tt

-- ---- what the machine says of these events

module _ (limits : Limits) (state : State) (history : List Event) (events : Reaches (first_state limits.partitions limits.workers) history state) where
  hosts_as_places : length state.hosts ≡ length state.places
  hosts_as_places =
      ap (λ (s : State). length s.hosts) (sym events.leads)
      ∙ (length-hosts_all (first_state limits.partitions limits.workers) history
      ∙ (length-hosts_first limits.partitions limits.workers ∙ sym (length-places_lawful limits state history events)))

  -- the partitions of a worker that fell are nowhere, and the others are where they were
  fell : (w p : ℕ) → place_at p (after state (Lose w)) ≡ cond (host_of p state == w) None (place_at p state)
  fell w p = place_after_lose state w p hosts_as_places

  module _ (p r : ℕ) (allowed : is_allowed state (Restore p r) ≡ true) where
    pub restored_within : p < limits.partitions
    restored_within =
        let below : p < length state.places = ltb-true p (length state.places) (and_parts (is_partition p state) _ (and_parts _ _ allowed).1).0 in
        omega (arith, below, length-places_lawful limits state history events)

    restored_nowhere : place_at p state ≡ None
    restored_nowhere = by (place_at p state) (not-true _ (and_parts _ _ (and_parts (is_partition p state) _ (and_parts _ _ allowed).1).1).0)
      where
        by : (place : Option ℕ) → is_some place ≡ false → place ≡ None
        by None e = refl
        by (Some k) e = absurd (true≢false e)

    restored_here : place_at p (after state (Restore p r)) ≡ Some r
    restored_here =
        get_or-set_same state.places p (Some r) None (omega (arith, restored_within, length-places_lawful limits state history events))

    restored_elsewhere : (q : ℕ) → q ≢ p → place_at q (after state (Restore p r)) ≡ place_at q state
    restored_elsewhere q apart = get_or-set_other state.places p q (Some r) None apart

-- ---- one partition after another

either_same : {X : Type 0} (b : Bool) (x : X) → cond b x x ≡ x
either_same true x = refl
either_same false x = refl

and_true : (b c : Bool) → c ≡ true → (b && c) ≡ b
and_true true c is = is
and_true false c is = refl

true_and : (b c : Bool) → b ≡ true → (b && c) ≡ c
true_and true c is = refl
true_and false c is = absurd (true≢false (sym is))

-- the partition after the last one counts for no other
below_next : (q p : ℕ) → q ≢ p → nat_lt q (p + 1) ≡ nat_lt q p
below_next q p apart =
    elim (cases_lt q p) [
      | inl less ↦ lt-ltb q (p + 1) (omega (arith, less)) ∙ sym (lt-ltb q p less)
      | inr more ↦ le-ltb q (p + 1) (omega (arith, more, apart)) ∙ sym (le-ltb q p more)
    ]

-- what is gone of the first k partitions, by their hosts, and of one partition more
pub one_lost : {X : Type 0} (w k : ℕ) (host : ℕ → ℕ) (before mid now : ℕ → Option X)
    → ((p : ℕ) → mid p ≡ cond (nat_lt p k && (host p == w)) None (before p))
    → ((p : ℕ) → now p ≡ cond ((host k == w) && (k == p)) None (mid p))
    → (p : ℕ) → now p ≡ cond (nat_lt p (k + 1) && (host p == w)) None (before p)
one_lost w k host before mid now so_far next p =
    elim (cases_eq p k) [
      | inl same ↦ subst (λ (p : ℕ). now p ≡ cond (nat_lt p (k + 1) && (host p == w)) None (before p)) (sym same)
          (let there : mid k ≡ before k =
          so_far k ∙ cond-false _ None (before k) (and_left (nat_lt k k) (host k == w) (le-ltb k k (omega arith))) in
          next k
          ∙ (λ i. cond (and_true (host k == w) (k == k) (eq-eqb k k refl) i) None (there i))
          ∙ sym (ap (λ b. cond b None (before k)) (true_and (nat_lt k (k + 1)) (host k == w) (lt-ltb k (k + 1) (omega arith)))))
      | inr apart ↦ next p
          ∙ (cond-false _ None (mid p) (and_right (host k == w) (k == p) (ne_eqb k p (λ e. apart (sym e))))
          ∙ (so_far p ∙ ap (λ b. cond (b && (host p == w)) None (before p)) (sym (below_next p k apart))))
    ]

-- all of them: there are no parts past the last one
pub all_lost : {X : Type 0} (w n : ℕ) (host : ℕ → ℕ) (before now : List (Option X)) → length before ≡ n
    → ((p : ℕ) → get_or now p None ≡ cond (nat_lt p n && (host p == w)) None (get_or before p None))
    → (p : ℕ) → get_or now p None ≡ cond (host p == w) None (get_or before p None)
all_lost {X} w n host before now many are p =
    elim (cases_lt p n) [
      | inl within ↦ are p ∙ ap (λ b. cond b None (get_or before p None)) (true_and (nat_lt p n) (host p == w) (lt-ltb p n within))
      | inr past ↦ (
          let none : get_or before p None ≡ None = get_or_past before p None (omega (arith, past, many)) in
          are p
          ∙ (ap (λ (x : Option X). cond (nat_lt p n && (host p == w)) None x) none
          ∙ (either_same (nat_lt p n && (host p == w)) None
          ∙ sym (ap (λ (x : Option X). cond (host p == w) None x) none ∙ either_same (host p == w) None)))
          )
    ]

-- the place of the part that a restored partition has
pub as_found_place : {V M : Type 0} (found : Option (PartState V M)) (part : PartState V M) → IsAsFound found part → place_found found ≡ part.part_run.place
as_found_place None part is = sym is
as_found_place (Some found) part is = ap (λ (p : PartState _ _). p.part_run.place) (sym is)

-- ---- what is so of every run

module _ {V M : Type 0} {limits : Limits} {declared : Declared} {registered registry : Registered} {state : State} {history : List Event}
    {parts : List (Option (PartState V M))} {shown : List Visible} {run_totals : RunTotals}
    (lawful : IsLawful limits declared registered registry state history parts shown run_totals) where
  -- a partition has another host, or was saved
  pub IsLawful-event : (event : Event) → is_allowed state event ≡ true → ((p : ℕ) → place_at p (after state event) ≡ place_at p state)
      → (after state event).current ≡ state.current
      → IsLawful limits declared registered registry (after state event) (history ++ event ∷ []) parts shown run_totals
  IsLawful-event event allowed there current = record {
    limits_are = lawful.limits_are;
    registry_is = lawful.registry_is;
    few = lawful.few;
    declared_are = lawful.declared_are;
    events = Reaches-push (first_state limits.partitions limits.workers) state history event lawful.events allowed;
    each = lawful.each;
    here = λ p part at. let before = lawful.here p part at in record {
      partition_is = before.partition_is;
      partitions_are = before.partitions_are;
      place_is = there p ∙ before.place_is;
    };
    stays = λ p r at past. lawful.stays p r (sym (there p) ∙ at) (omega (arith, past, current));
    within = omega (arith, lawful.within, current);
    shown_so_far = omega (arith, lawful.shown_so_far, current);
    shown_places = lawful.shown_places;
    gathered_places = lawful.gathered_places;
  }

  pub IsLawful-lose : (w : ℕ) (remaining : List (Option (PartState V M))) → is_allowed state (Lose w) ≡ true → AreLost w state parts remaining
      → IsLawful limits declared registered registry (after state (Lose w)) (history ++ Lose w ∷ []) remaining shown run_totals
  IsLawful-lose w remaining allowed lost = record {
    limits_are = lawful.limits_are;
    registry_is = lawful.registry_is;
    few = lawful.few;
    declared_are = lawful.declared_are;
    events = Reaches-push (first_state limits.partitions limits.workers) state history (Lose w) lawful.events allowed;
    each = lost.each ∙ lawful.each;
    here = λ p part at. elim (cases_Bool (host_of p state == w)) [
      | inl its ↦ absurd (none-some part (sym (lost.are p ∙ cond-true _ None (get_or parts p None) its) ∙ at))
      | inr other ↦ (
          let before = lawful.here p part (sym (lost.are p ∙ cond-false _ None (get_or parts p None) other) ∙ at) in
          record {
            partition_is = before.partition_is;
            partitions_are = before.partitions_are;
            place_is = fell limits state history lawful.events w p ∙ (cond-false _ None (place_at p state) other ∙ before.place_is);
          }
          )
    ];
    stays = λ p r at past. elim (cases_Bool (host_of p state == w)) [
      | inl its ↦ absurd (none-some r (sym (fell limits state history lawful.events w p ∙ cond-true _ None (place_at p state) its) ∙ at))
      | inr other ↦ ap is_some (lost.are p ∙ cond-false _ None (get_or parts p None) other)
          ∙ lawful.stays p r (sym (fell limits state history lawful.events w p ∙ cond-false _ None (place_at p state) other) ∙ at) past
    ];
    within = lawful.within;
    shown_so_far = lawful.shown_so_far;
    shown_places = lawful.shown_places;
    gathered_places = lawful.gathered_places;
  }

  pub IsLawful-restore : (p : ℕ) (part : PartState V M) → is_allowed state (Restore p part.part_run.place) ≡ true → IsOf limits.partitions p part
      → IsLawful limits declared registered registry (after state (Restore p part.part_run.place)) (history ++ Restore p part.part_run.place ∷ [])
      (set parts p (Some part)) shown run_totals
  IsLawful-restore p part allowed own =
      let r : ℕ = part.part_run.place in
      let within : p < length parts = omega (arith, restored_within limits state history lawful.events p r allowed, lawful.each) in
      let mine : get_or (set parts p (Some part)) p None ≡ Some part = get_or-set_same parts p (Some part) None within in
      let others : (q : ℕ) → q ≢ p → get_or (set parts p (Some part)) q None ≡ get_or parts q None =
      λ q apart. get_or-set_other parts p q (Some part) None apart in
      record {
        limits_are = lawful.limits_are;
        registry_is = lawful.registry_is;
        few = lawful.few;
        declared_are = lawful.declared_are;
        events = Reaches-push (first_state limits.partitions limits.workers) state history (Restore p r) lawful.events allowed;
        each = length-set parts p (Some part) ∙ lawful.each;
        here = λ q part' at. elim (cases_eq q p) [
          | inl same ↦ (
              let is : part ≡ part' = same_Some part part' (sym mine ∙ (ap (λ (q : ℕ). get_or (set parts p (Some part)) q None) (sym same) ∙ at)) in
              let there : IsPartAt limits.partitions (after state (Restore p r)) p part = record {
                partition_is = own.partition_is;
                partitions_are = own.partitions_are;
                place_is = restored_here limits state history lawful.events p r allowed;
              } in
              subst (λ (q : ℕ). IsPartAt limits.partitions (after state (Restore p r)) q part') (sym same)
              (subst (IsPartAt limits.partitions (after state (Restore p r)) p) is there)
              )
          | inr apart ↦ (
              let before = lawful.here q part' (sym (others q apart) ∙ at) in
              record {
                partition_is = before.partition_is;
                partitions_are = before.partitions_are;
                place_is = restored_elsewhere limits state history lawful.events p r allowed q apart ∙ before.place_is;
              }
              )
        ];
        stays = λ q s at past. elim (cases_eq q p) [
          | inl same ↦ ap (λ (q : ℕ). is_some (get_or (set parts p (Some part)) q None)) same ∙ ap is_some mine
          | inr apart ↦ ap is_some (others q apart)
              ∙ lawful.stays q s (sym (restored_elsewhere limits state history lawful.events p r allowed q apart) ∙ at) past
        ];
        within = lawful.within;
        shown_so_far = lawful.shown_so_far;
        shown_places = lawful.shown_places;
        gathered_places = lawful.gathered_places;
      }

-- a partition that is ready has a host that is alive
module _ {P C A V M : Type 0} (core : Progress P C A V M) (some : 0 < core.limits.workers)
    (events : Reaches (first_state core.limits.partitions core.limits.workers) core.history core.state) where
  alive_where_ready : (p : ℕ) → is_ready core p ≡ true → is_alive (host_of p core.state) core.state ≡ true
  alive_where_ready p ready =
      let steps = StepsFrom-from_allowed core.state p (and_parts (is_allowed core.state (Step p)) _ ready).0 in
      host_is_alive core.limits.partitions core.history core.state core.limits.workers events some p steps.from steps.at

  abbrev Lives : ℕ × ℕ → Type 0
  Lives r = is_alive r.0 core.state ≡ true

  abbrev ready_among : List ℕ → List (ℕ × ℕ)
  ready_among ps = map (λ p. (host_of p core.state, p)) (filter (is_ready core) ps)

  all_alive : (ps : List ℕ) → All Lives (ready_among ps)
  all_alive [] = All-nil Lives
  all_alive (p ∷ ps) = by (is_ready core p) refl (all_alive ps)
    where
      by : (b : Bool) → is_ready core p ≡ b → All Lives (ready_among ps)
          → All Lives (map (λ p. (host_of p core.state, p)) (cond b (p ∷ filter (is_ready core) ps) (filter (is_ready core) ps)))
      by true is rest = All-cons Lives (host_of p core.state, p) (ready_among ps) (alive_where_ready p is) rest
      by false is rest = rest

  pub ready_are_alive : All Lives (ready_of core)
  ready_are_alive = all_alive (range_with_len 0 core.limits.partitions)

-- ---- what is so of a right one

module _ {P C A V M : Type 0} (job : Job V M) (kept : Option Rows) (core : Progress P C A V M) (right : IsRight job kept core)
    (events : Reaches (first_state core.limits.partitions core.limits.workers) core.history core.state) where
  abbrev keeps : ℕ → Option Rows
  keeps = kept_for kept core

  pub IsRight-host : (p w : ℕ) → IsRight job kept (with_event (Host p w) core)
  IsRight-host p w = IsRightWith-same job kept keeps _ (with_event (Host p w) core) (λ q. kept_more kept core (Host p w) q events refl) (record {
    within = right.within;
    parts = right.parts;
    logs = record { sent = right.logs.sent; no_more = right.logs.no_more };
    shown = right.shown;
    run_totals = right.run_totals;
    ending = right.ending;
    at_end = right.at_end;
    warm = right.warm;
  })

  pub IsRight-save : (p : ℕ) → IsRight job kept (with_event (Save p) core)
  IsRight-save p = IsRightWith-same job kept keeps _ (with_event (Save p) core) (λ q. kept_more kept core (Save p) q events refl) (record {
    within = right.within;
    parts = right.parts;
    logs = record { sent = right.logs.sent; no_more = right.logs.no_more };
    shown = right.shown;
    run_totals = right.run_totals;
    ending = right.ending;
    at_end = right.at_end;
    warm = right.warm;
  })

  module _ (w : ℕ) (parts : List (Option (PartState V M))) (logs : Slots M) (lost : AreLost w core.state core.parts parts)
      (forgotten : IsForgotten core.limits.partitions w core.state core.logs logs) where
    abbrev n : ℕ
    n = core.limits.partitions

    abbrev remaining : Progress P C A V M
    remaining = record (with_event (Lose w) core) { parts = parts; logs = logs }

    place : (p : ℕ) → place_at p remaining.state ≡ cond (host_of p core.state == w) None (place_at p core.state)
    place p = fell core.limits core.state core.history events w p

    stays : (p : ℕ) → (host_of p core.state == w) ≡ false → place_at p remaining.state ≡ place_at p core.state
    stays p other = place p ∙ cond-false _ None (place_at p core.state) other

    -- a partition that isn't there has made no superstep
    not_there : (s p : ℕ) (at : Option ℕ) → place_at p core.state ≡ at → nat_lt p n ≡ false → is_past s at ≡ false
    not_there s p None at out = refl
    not_there s p (Some r) at out =
        let inside : p < n = omega (arith, some_within core.state.places p r at, length-places_lawful core.limits core.state core.history events) in
        absurd (true≢false (sym (lt-ltb p n inside) ∙ out))

    unsent : (s p q : ℕ) → (is_past s (place_at p remaining.state) && nat_lt q n) ≡ false → (nat_lt p n && (host_of p core.state == w)) ≡ false
        → (is_past s (place_at p core.state) && nat_lt q n) ≡ false
    unsent s p q not_yet apart =
        elim (and_cases (nat_lt p n) (host_of p core.state == w) apart) [
          | inl out ↦ and_left _ (nat_lt q n) (not_there s p (place_at p core.state) refl out)
          | inr other ↦ ap (λ r. is_past s r && nat_lt q n) (sym (stays p other)) ∙ not_yet
        ]

    pub IsRight-lose : IsRight job kept remaining
    IsRight-lose = record {
      within = right.within;
      parts = λ p part at. elim (cases_Bool (host_of p core.state == w)) [
        | inl its ↦ absurd (none-some part (sym (lost.are p ∙ cond-true _ None (part_at p core) its) ∙ at))
        | inr other ↦ subst (λ k. HoldsAt job core.graph k n p (place_at p remaining.state) part) (kept_more kept core (Lose w) p events other)
            (subst (λ r. HoldsAt job core.graph (keeps p) n p r part) (sym (stays p other))
            (right.parts p part (sym (lost.are p ∙ cond-false _ None (part_at p core) other) ∙ at)))
      ];
      logs = record {
        sent = λ s p q past within. elim (cases_Bool (host_of p core.state == w)) [
          | inl its ↦ absurd (true≢false (sym past ∙ ap (is_past s) (place p ∙ cond-true _ None (place_at p core.state) its)))
          | inr other ↦ subst (λ k. IsSentTo job k core.graph n p q s (slot_at logs s p q)) (kept_more kept core (Lose w) p events other)
              (subst (IsSentTo job (keeps p) core.graph n p q s)
              (sym (forgotten s p q ∙ cond-false _ None (slot_at core.logs s p q) (and_right (nat_lt p n) _ other)))
              (right.logs.sent s p q (sym (ap (is_past s) (stays p other)) ∙ past) within))
        ];
        no_more = λ s p q not_yet. elim (cases_Bool (nat_lt p n && (host_of p core.state == w))) [
          | inl gone ↦ forgotten s p q ∙ cond-true _ None (slot_at core.logs s p q) gone
          | inr apart ↦ forgotten s p q
              ∙ (cond-false _ None (slot_at core.logs s p q) apart ∙ right.logs.no_more s p q (unsent s p q not_yet apart))
        ];
      };
      shown = right.shown;
      run_totals = right.run_totals;
      ending = right.ending;
      at_end = right.at_end;
      warm = right.warm;
    }

  -- partition p is restored at r, from scratch, and what it sent on its way is put back
  module _ (p r : ℕ) (part : PartState V M) (logs : Slots M) (allowed : is_allowed core.state (Restore p r) ≡ true)
      (inside : p < length core.parts) (share : HoldsShare job None core.graph core.limits.partitions p r part)
      (put : (s q : ℕ) → s < r → q < core.limits.partitions → IsSentTo job None core.graph core.limits.partitions p q s (slot_at logs s p q))
      (others : (s u q : ℕ) → ((p == u) && (nat_lt s r && nat_lt q core.limits.partitions)) ≡ false → slot_at logs s u q ≡ slot_at core.logs s u q) where
    abbrev back : Progress P C A V M
    back = record (with_event (Restore p r) core) { parts = set core.parts p (Some part); logs = logs }

    here : place_at p back.state ≡ Some r
    here = restored_here core.limits core.state core.history events p r allowed

    elsewhere : (q : ℕ) → q ≢ p → place_at q back.state ≡ place_at q core.state
    elsewhere q apart = restored_elsewhere core.limits core.state core.history events p r allowed q apart

    stays_kept : (q : ℕ) → keeps q ≡ kept_for kept back q
    stays_kept q = kept_more kept core (Restore p r) q events refl

    cold : kept_for kept back p ≡ None
    cold =
        sym (stays_kept p)
        ∙ cond-true _ None kept
        (lost_where_nowhere core.limits.partitions core.limits.workers p core.history core.state events
        (restored_within core.limits core.state core.history events p r allowed)
        (restored_nowhere core.limits core.state core.history events p r allowed))

    apart_from : (s u q : ℕ) → u ≢ p → slot_at logs s u q ≡ slot_at core.logs s u q
    apart_from s u q apart = others s u q (and_left (p == u) _ (ne_eqb p u (λ e. apart (sym e))))

    pub IsRight-restore : IsRight job kept back
    IsRight-restore = record {
      within = right.within;
      parts = λ q part' at. elim (cases_eq q p) [
        | inl same ↦ (
            let mine : get_or (set core.parts p (Some part)) p None ≡ Some part = get_or-set_same core.parts p (Some part) None inside in
            let is : part ≡ part' = same_Some part part' (sym mine ∙ (ap (λ (q : ℕ). get_or (set core.parts p (Some part)) q None) (sym same) ∙ at)) in
            subst (λ (q : ℕ). HoldsAt job core.graph (kept_for kept back q) core.limits.partitions q (place_at q back.state) part') (sym same)
            (subst (λ k. HoldsAt job core.graph k core.limits.partitions p (place_at p back.state) part') (sym cold)
            (subst (λ at. HoldsAt job core.graph None core.limits.partitions p at part') (sym here)
            (subst (HoldsShare job None core.graph core.limits.partitions p r) is share)))
            )
        | inr apart ↦ subst (λ k. HoldsAt job core.graph k core.limits.partitions q (place_at q back.state) part') (stays_kept q)
            (subst (λ at. HoldsAt job core.graph (keeps q) core.limits.partitions q at part') (sym (elsewhere q apart))
            (right.parts q part' (sym (get_or-set_other core.parts p q (Some part) None apart) ∙ at)))
      ];
      logs = record {
        sent = λ s u q past within. elim (cases_eq u p) [
          | inl same ↦ subst (λ (u : ℕ). IsSentTo job (kept_for kept back u) core.graph core.limits.partitions u q s (slot_at logs s u q)) (sym same)
              (subst (λ k. IsSentTo job k core.graph core.limits.partitions p q s (slot_at logs s p q)) (sym cold)
              (put s q
              (ltb-true s r (sym (ap (is_past s) here) ∙ (ap (λ (u : ℕ). is_past s (place_at u back.state)) (sym same) ∙ past))) within))
          | inr apart ↦ subst (λ k. IsSentTo job k core.graph core.limits.partitions u q s (slot_at logs s u q)) (stays_kept u)
              (subst (IsSentTo job (keeps u) core.graph core.limits.partitions u q s) (sym (apart_from s u q apart))
              (right.logs.sent s u q (sym (ap (is_past s) (elsewhere u apart)) ∙ past) within))
        ];
        no_more = λ s u q not_yet. elim (cases_eq u p) [
          | inl same ↦ subst (λ (u : ℕ). slot_at logs s u q ≡ None) (sym same)
              (let none : (is_past s (Some r) && nat_lt q core.limits.partitions) ≡ false =
              ap (λ at. is_past s at && nat_lt q core.limits.partitions) (sym here) ∙
              (ap (λ (u : ℕ). is_past s (place_at u back.state) && nat_lt q core.limits.partitions) (sym same) ∙ not_yet) in
              others s p q (and_right (p == p) _ none)
              ∙ right.logs.no_more s p q
              (and_left _ (nat_lt q core.limits.partitions)
              (ap (is_past s) (restored_nowhere core.limits core.state core.history events p r allowed))))
          | inr apart ↦ apart_from s u q apart
              ∙ right.logs.no_more s u q (ap (λ at. is_past s at && nat_lt q core.limits.partitions) (sym (elsewhere u apart)) ∙ not_yet)
        ];
      };
      shown = right.shown;
      run_totals = right.run_totals;
      ending = right.ending;
      at_end = right.at_end;
      warm = right.warm;
    }
