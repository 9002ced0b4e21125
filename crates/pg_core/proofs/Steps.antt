-- What taking a part, and taking in its step, leave of a run over partitions.
use Rattle.std.proofs.Common.{◌≡◌, ℕ, ◌+◌, ◌<◌, ◌≢◌, Bool, true, false, cond, ◌&&◌, List, [], ◌∷◌, ◌++◌, length, take}
use Rattle.std.proofs.Common.{get_or, set, Option, None, Some, is_some, refl, ap, sym, ◌∙◌, subst, subst₂, arith, inl, inr}
use Rattle.std.specs.Prelude.{◌==◌, nat_lt}
use Rattle.std.specs.List.{slice_get}
use Rattle.std.proofs.lemmas.Bool.{and_cases, and_left, and_right, cases_eq, cases_lt, cond-false, cond-true}
use Rattle.std.proofs.lemmas.Bool.{eq-eqb, le-ltb, leb-true, lt-ltb, ltb-false, ltb-true, ne_eqb, true≢false}
use Rattle.std.proofs.lemmas.List.FromFn.{length-map-range_with_len}
use Rattle.std.proofs.lemmas.List.{get_or-set_other, get_or-set_same, length-set, take_all}
use Rattle.std.proofs.lemmas.Option.{same_Some}
use Rattle.pg_core_machine.specs.Limits.{Limits}
use Rattle.pg_core_machine.specs.Machine.{Reaches, State, after, first_state, is_allowed, is_from, place_at}
use Rattle.pg_core.specs.Progress.{HasPut, HoldsAt, IsLawful, IsNext, IsPartAt, IsRight, IsStepFrom, HasStepInput, IsStepOf}
use Rattle.pg_core.specs.Progress.{LogsHold, Progress, TakesIn, has_lost, is_past, kept_for, part_at, without_part}
use Rattle.pg_core.specs.Traces.{KeepsRetainedRun, RetainedRun, logs_in, visible_in}
use Rattle.pg_core_machine.specs.declared.event.Event.{Event}
use Rattle.pg_core_machine.specs.declared.event.Event.TheVariants.{Step}
use Rattle.pg_core.specs.declared.run_totals.RunTotals.{RunTotals}
use Rattle.pg_core.proofs.Keeping.{IsRightWith-same, kept_more}
use Rattle.pg_core.proofs.Parts.{slice_get-made}
use Rattle.pg_core_machine.proofs.LawsMachine.{Reaches-push, some_within}
use Rattle.pg_core_machine.proofs.LawsSteps.{StepsFrom-from_allowed, length-places_lawful, place_after_other, place_after_own}
use Rattle.pg_global.specs.Registry.{Registered}
use Rattle.pg_graph.specs.Rows.{Rows}
use Rattle.pg_inbox.specs.Handed.{AreChanged, LoggedBundle, MessageLists, message_lists_in}
use Rattle.pg_inbox.specs.LoggedBundle.{Slots, slot_at}
use Rattle.pg_model.specs.Job.{Job}
use Rattle.pg_model.specs.Run.{run_length, visible_at}
use Rattle.pg_model.specs.declared.view.Declared.{Declared}
use Rattle.pg_model.specs.declared.view.Visible.{Visible}
use Rattle.pg_part.specs.Handed.{HasMessages, TellsAt, TellsFrom, bundle_in, bundle_sent}
use Rattle.pg_part.specs.StepInput.{IsStepInput, IsOldStepInput, HasOldLogs}
use Rattle.pg_part.specs.PartRun.{IsAdvanced, IsSentTo}
use Rattle.pg_part.specs.Part as parts_of
use Rattle.pg_part.specs.Part.{HoldsShare, PartState}

-- ---- the partition that steps

-- a part that made a step is the next of its partition
pub IsNext-from_IsAdvanced : {V M : Type 0} (partitions : ℕ) (state : State) (p : ℕ) (before after : PartState V M)
    → IsPartAt partitions state p before → IsAdvanced before.part_run after.part_run → IsNext partitions state p after
IsNext-from_IsAdvanced partitions state p before after at advanced = record {
  partition_is = advanced.partition_stays ∙ at.partition_is;
  partitions_are = advanced.partitions_stay ∙ at.partitions_are;
  place_is =
      λ r is. let same : before.part_run.place ≡ r = same_Some before.part_run.place r (sym at.place_is ∙ is) in advanced.place_is ∙ ap (λ (k : ℕ). k + 1) same;
}

-- ---- what is so of every run

module _ {V M : Type 0} {limits : Limits} {declared : Declared} {registered registry : Registered} {state : State} {history : List Event}
    {parts : List (Option (PartState V M))} {shown : List Visible} {run_totals : RunTotals}
    (lawful : IsLawful limits declared registered registry state history parts shown run_totals) (p : ℕ)
    (allowed : is_allowed state (Step p) ≡ true) where
  -- there is a place for the part of a partition that is somewhere
  pub part_within : (q r : ℕ) → place_at q state ≡ Some r → q < length parts
  part_within q r at =
      omega (arith, some_within state.places q r at, length-places_lawful limits state history lawful.events, lawful.each)

  pub IsLawful-take : IsLawful limits declared registered registry state history (set parts p None) shown run_totals
  IsLawful-take =
      let steps = StepsFrom-from_allowed state p allowed in
      let within : p < length parts = part_within p steps.from steps.at in
      let gone : get_or (set parts p None) p None ≡ None = get_or-set_same parts p None None within in
      let kept : (q : ℕ) → q ≢ p → get_or (set parts p None) q None ≡ get_or parts q None = λ q apart. get_or-set_other parts p q None None apart in
      record {
        limits_are = lawful.limits_are;
        registry_is = lawful.registry_is;
        few = lawful.few;
        declared_are = lawful.declared_are;
        events = lawful.events;
        each = length-set parts p None ∙ lawful.each;
        here = λ q part at. elim (cases_eq q p) [
          | inl same ↦ (let none : None ≡ Some part = sym gone ∙ (ap (λ (q : ℕ). get_or (set parts p None) q None) (sym same) ∙ at) in absurd (cc))
          | inr apart ↦ lawful.here q part (sym (kept q apart) ∙ at)
        ];
        stays = λ q r at past. elim (cases_eq q p) [
          | inl same ↦ (
              let is : r ≡ steps.from = same_Some r steps.from (sym at ∙ (ap (λ (q : ℕ). place_at q state) same ∙ steps.at)) in
              absurd (omega (arith, is, past, steps.open_or_before))
              )
          | inr apart ↦ ap is_some (kept q apart) ∙ lawful.stays q r at past
        ];
        within = lawful.within;
        shown_so_far = lawful.shown_so_far;
        shown_places = lawful.shown_places;
        gathered_places = lawful.gathered_places;
      }

  pub IsLawful-step : (part : PartState V M) → IsNext limits.partitions state p part
      → IsLawful limits declared registered registry (after state (Step p)) (history ++ Step p ∷ []) (set parts p (Some part)) shown run_totals
  IsLawful-step part next =
      let steps = StepsFrom-from_allowed state p allowed in
      let within : p < length parts = part_within p steps.from steps.at in
      let own : get_or (set parts p (Some part)) p None ≡ Some part = get_or-set_same parts p (Some part) None within in
      let kept : (q : ℕ) → q ≢ p → get_or (set parts p (Some part)) q None ≡ get_or parts q None =
      λ q apart. get_or-set_other parts p q (Some part) None apart in
      record {
        limits_are = lawful.limits_are;
        registry_is = lawful.registry_is;
        few = lawful.few;
        declared_are = lawful.declared_are;
        events = Reaches-push (first_state limits.partitions limits.workers) state history (Step p) lawful.events allowed;
        each = length-set parts p (Some part) ∙ lawful.each;
        here = λ q part' at. elim (cases_eq q p) [
          | inl same ↦ (
              let is : part ≡ part' = same_Some part part' (sym own ∙ (ap (λ (q : ℕ). get_or (set parts p (Some part)) q None) (sym same) ∙ at)) in
              let mine : IsPartAt limits.partitions (after state (Step p)) p part = record {
                partition_is = next.partition_is;
                partitions_are = next.partitions_are;
                place_is = place_after_own state p steps.from steps.at ∙ ap Some (sym (next.place_is steps.from steps.at));
              } in
              subst (λ (q : ℕ). IsPartAt limits.partitions (after state (Step p)) q part') (sym same)
              (subst (IsPartAt limits.partitions (after state (Step p)) p) is mine)
              )
          | inr apart ↦ (
              let before = lawful.here q part' (sym (kept q apart) ∙ at) in
              record {
                partition_is = before.partition_is;
                partitions_are = before.partitions_are;
                place_is = place_after_other state p q apart ∙ before.place_is;
              }
              )
        ];
        stays = λ q r at past. elim (cases_eq q p) [
          | inl same ↦ ap (λ (q : ℕ). is_some (get_or (set parts p (Some part)) q None)) same ∙ ap is_some own
          | inr apart ↦ ap is_some (kept q apart) ∙ lawful.stays q r (sym (place_after_other state p q apart) ∙ at) past
        ];
        within = lawful.within;
        shown_so_far = lawful.shown_so_far;
        shown_places = lawful.shown_places;
        gathered_places = lawful.gathered_places;
      }

-- ---- what is so of a right one

-- one that tells where it differs; one that may
abbrev Tells : {M : Type 0} → MessageLists M → MessageLists M → Option (List ℕ) → Type 0
Tells old new changed = elim changed [ None ↦ ⊥ | Some ids ↦ AreChanged old new ids ]

abbrev MayTell : {M : Type 0} → MessageLists M → MessageLists M → Option (List ℕ) → Type 0
MayTell old new changed = elim changed [ None ↦ Unit {0} | Some ids ↦ AreChanged old new ids ]

-- what is sent against a kept run tells where it differs from what that sent; where a loss took the sender, nothing is told
TellsAt-from_sent : {V M : Type 0} (job : Job V M) (old rows : Rows) (lost : Bool) (n q p s : ℕ) (old_slot slot : Option (LoggedBundle M))
    → s < run_length job old → bundle_in old_slot ≡ Some (bundle_sent job old n q p s)
    → IsSentTo job (cond lost None (Some old)) rows n q p s slot → TellsAt old_slot slot
TellsAt-from_sent job old rows lost n q p s old_slot None within had h = absurd h
TellsAt-from_sent job old rows true n q p s old_slot (Some logged) within had h =
    subst (MayTell (message_lists_in (bundle_in old_slot)) logged.bundle) (sym h.1) tt
TellsAt-from_sent job old rows false n q p s old_slot (Some logged) within had h =
    subst (λ b. TellsFrom b logged) (sym had) (by logged.changed (h.1 within))
  where
    by : (changed : Option (List ℕ)) → Tells (bundle_sent job old n q p s) logged.bundle changed → MayTell (bundle_sent job old n q p s) logged.bundle changed
    by None h = absurd h
    by (Some ids) h = h

-- what a step borrows of the kept run: what it reads there, and its logs tell, if anything, where they differ
IsOldStepInput-old : {V M : Type 0} (job : Job V M) (old : Option Rows) (lost : ℕ → Bool) (rows : Rows) (n p r : ℕ) (logs : Slots M)
    (kept : Option (RetainedRun V M)) → p < n → KeepsRetainedRun job old n kept
    → ((s q : ℕ) → s + 1 ≡ r → q < n → IsSentTo job (cond (lost q) None old) rows n q p s (slot_at logs s q p))
    → IsOldStepInput job old n p r logs (logs_in r kept) (visible_in r kept)
IsOldStepInput-old job None lost rows n p r logs kept mine keeps sent = tt
IsOldStepInput-old job (Some old) lost rows n p r logs None mine keeps sent = absurd keeps
IsOldStepInput-old {V} {M} job (Some old) lost rows n p r logs (Some kept) mine keeps sent =
    elim (cases_lt r (run_length job old)) [
      | inl less ↦ (
          let there : logs_in r (Some kept) ≡ Some kept.logs =
          cond-true (nat_lt r (length kept.shown)) (Some kept.logs) None (lt-ltb r (length kept.shown) (omega (arith, many, less))) in
          let shows : visible_in r (Some kept) ≡ Some (visible_at job old r) =
          ap (λ l. slice_get l r) keeps.shown ∙ slice_get-made (visible_at job old) (run_length job old) r less in
          let has_logs : HasOldLogs job old n p r logs kept.logs = record {
            there = less;
            received = λ s q before within. keeps.sent s q p (omega (arith, before, less)) within mine;
            sent = λ q within. keeps.sent r p q less mine within;
            lists_changes =
                λ s q before within. TellsAt-from_sent job old rows (lost q) n q p s (slot_at kept.logs s q p) (slot_at logs s q p)
                (omega (arith, before, less)) (keeps.sent s q p (omega (arith, before, less)) within mine) (sent s q before within);
          } in
          subst₂ (IsOldStepInput job (Some old) n p r logs) (sym there) (sym shows) (has_logs, refl)
          )
      | inr more ↦ (
          let gone : logs_in r (Some kept) ≡ None =
          cond-false (nat_lt r (length kept.shown)) (Some kept.logs) None (le-ltb r (length kept.shown) (omega (arith, many, more))) in
          subst (λ o. IsOldStepInput job (Some old) n p r logs o (visible_in r (Some kept))) (sym gone) more
          )
    ]
  where
    many : length kept.shown ≡ run_length job old
    many = ap length keeps.shown ∙ length-map-range_with_len (visible_at job old) 0 (run_length job old)

-- one that a loss took is cold, and may borrow anything
IsOldStepInput-kept : {V M : Type 0} (job : Job V M) (old : Option Rows) (lost : ℕ → Bool) (rows : Rows) (n p r : ℕ) (logs : Slots M)
    (kept : Option (RetainedRun V M)) → p < n → KeepsRetainedRun job old n kept
    → ((s q : ℕ) → s + 1 ≡ r → q < n → IsSentTo job (cond (lost q) None old) rows n q p s (slot_at logs s q p))
    → IsOldStepInput job (cond (lost p) None old) n p r logs (logs_in r kept) (visible_in r kept)
IsOldStepInput-kept {V} {M} job old lost rows n p r logs kept mine keeps sent = by (lost p)
  where
    by : (b : Bool) → IsOldStepInput job (cond b None old) n p r logs (logs_in r kept) (visible_in r kept)
    by true = tt
    by false = IsOldStepInput-old job old lost rows n p r logs kept mine keeps sent

module _ {V M : Type 0} (job : Job V M) (kept : Option Rows) {P C A : Type 0} (core : Progress P C A V M) (p : ℕ)
    (right : IsRight job kept core) (allowed : is_allowed core.state (Step p) ≡ true) where
  abbrev keeps : ℕ → Option Rows
  keeps = kept_for kept core

  pub IsRight-take : p < length core.parts → IsRight job kept (without_part p core)
  IsRight-take within =
      let gone : get_or (set core.parts p None) p None ≡ None = get_or-set_same core.parts p None None within in
      record {
        within = right.within;
        parts = λ q part at. elim (cases_eq q p) [
          | inl same ↦ (let none : None ≡ Some part = sym gone ∙ (ap (λ (q : ℕ). get_or (set core.parts p None) q None) (sym same) ∙ at) in absurd (cc))
          | inr apart ↦ right.parts q part (sym (get_or-set_other core.parts p q None None apart) ∙ at)
        ];
        logs = right.logs;
        shown = right.shown;
        run_totals = right.run_totals;
        ending = right.ending;
        at_end = right.at_end;
        warm = right.warm;
      }

  -- a step borrows what it reads of the run
  pub HasStepInput-taken : (many : length core.state.places ≡ core.limits.partitions) (part : PartState V M) → part_at p core ≡ Some part
      → HasStepInput job kept core p part.part_run.place part
  HasStepInput-taken many part at =
      let steps = StepsFrom-from_allowed core.state p allowed in
      let n : ℕ = core.limits.partitions in
      let holds : HoldsShare job (keeps p) core.graph n p steps.from part =
      subst (λ place. HoldsAt job core.graph (keeps p) n p place part) steps.at (right.parts p part at) in
      let p_within : p < n = subst (λ (k : ℕ). p < k) many (some_within core.state.places p steps.from steps.at) in
      let is : steps.from ≡ part.part_run.place = sym holds.part_run.place_is in
      let sent : (s q : ℕ) → s + 1 ≡ steps.from → q < n → IsSentTo job (keeps q) core.graph n q p s (slot_at core.logs s q p) =
      (λ s q before within. right.logs.sent s q p
      (past s q before (place_at q core.state) (steps.others q (subst (λ (k : ℕ). q < k) (sym many) within))) p_within) in
      let step_input : HasMessages job core.graph n p steps.from core.logs =
      (λ s q before within. sent_is s q (slot_at core.logs s q p) (sent s q before within)) in
      subst (λ (r : ℕ). HasStepInput job kept core p r part) is (record {
        holds = holds;
        step_input = record { within = omega (arith, steps.open_or_before, right.within); messages = step_input; sees = refl };
        warm = IsOldStepInput-kept job kept (has_lost core) core.graph n p steps.from core.logs core.kept p_within right.warm sent;
        open_or_before = steps.open_or_before;
      })
    where
      sent_is : (s q : ℕ) (slot : Option (LoggedBundle M)) → IsSentTo job (keeps q) core.graph core.limits.partitions q p s slot
          → bundle_in slot ≡ Some (bundle_sent job core.graph core.limits.partitions q p s)
      sent_is s q None h = absurd h
      sent_is s q (Some logged) h = ap Some h.0

      past : (s q : ℕ) → s + 1 ≡ (StepsFrom-from_allowed core.state p allowed).from → (place : Option ℕ)
          → is_from (StepsFrom-from_allowed core.state p allowed).from place ≡ true → is_past s place ≡ true
      past s q before None from = absurd (true≢false (sym from))
      past s q before (Some r) from = lt-ltb s r (omega (arith, before, leb-true _ r from))

  module _ (part : PartState V M) (sent : List (LoggedBundle M)) (new : Progress P C A V M) (is_step : IsStepOf job kept core p part sent)
      (takes : TakesIn p part sent core new) where
    LogsHold-step : LogsHold job core.graph keeps core.limits.partitions (after core.state (Step p)).places new.logs
    LogsHold-step =
        let n : ℕ = core.limits.partitions in
        let steps = StepsFrom-from_allowed core.state p allowed in
        let r : ℕ = steps.from in
        let made = is_step r steps.at in
        let all : take n sent ≡ sent = take_all n sent (omega (arith, made.to_each)) in
        let put : HasPut r p sent core.logs new.logs = subst (λ (l : List (LoggedBundle M)). HasPut r p l core.logs new.logs) all (takes.logs_are r steps.at) in
        -- other slots are as they were
        let other : (s u q : ℕ) → ((p == u) && ((r == s) && nat_lt q (length sent))) ≡ false → slot_at new.logs s u q ≡ slot_at core.logs s u q =
        λ s u q apart. put s u q ∙ cond-false _ (slice_get sent q) (slot_at core.logs s u q) apart in
        let elsewhere : (s u q : ℕ) → u ≢ p → slot_at new.logs s u q ≡ slot_at core.logs s u q =
        λ s u q apart. other s u q (and_left (p == u) _ (ne_eqb p u (λ e. apart (sym e)))) in
        let earlier : (s q : ℕ) → s ≢ r → slot_at new.logs s p q ≡ slot_at core.logs s p q =
        λ s q apart. other s p q (and_right (p == p) _ (and_left (r == s) _ (ne_eqb r s (λ e. apart (sym e))))) in
        let own_place : place_at p (after core.state (Step p)) ≡ Some (r + 1) = place_after_own core.state p r steps.at in
        record {
          sent = λ s u q past within. elim (cases_eq u p) [
            | inl same ↦ subst (λ (u : ℕ). IsSentTo job (keeps u) core.graph n u q s (slot_at new.logs s u q)) (sym same)
                (let before : is_past s (Some (r + 1)) ≡ true = sym (ap (is_past s) own_place) ∙
                (ap (λ (u : ℕ). is_past s (place_at u (after core.state (Step p)))) (sym same) ∙ past) in
                elim (cases_eq s r) [
                  | inl now ↦ (
                      let here : (p == p) && ((r == r) && nat_lt q (length sent)) ≡ true =
                      ap (λ b. b && ((r == r) && nat_lt q (length sent))) (eq-eqb p p refl)
                      ∙ (ap (λ b. b && nat_lt q (length sent)) (eq-eqb r r refl) ∙ lt-ltb q (length sent) (omega (arith, made.to_each, within))) in
                      subst (λ (s : ℕ). IsSentTo job (keeps p) core.graph n p q s (slot_at new.logs s p q)) (sym now)
                      (subst (IsSentTo job (keeps p) core.graph n p q r)
                      (sym (put r p q ∙ cond-true _ (slice_get sent q) (slot_at core.logs r p q) here))
                      (made.sends q within))
                      )
                  | inr apart ↦ (
                      let still : is_past s (place_at p core.state) ≡ true =
                      ap (is_past s) steps.at ∙ lt-ltb s r (omega (arith, ltb-true s (r + 1) before, apart)) in
                      subst (IsSentTo job (keeps p) core.graph n p q s) (sym (earlier s q apart)) (right.logs.sent s p q still within)
                      )
                ])
            | inr apart ↦ subst (IsSentTo job (keeps u) core.graph n u q s) (sym (elsewhere s u q apart))
                (right.logs.sent s u q (ap (is_past s) (sym (place_after_other core.state p u apart)) ∙ past) within)
          ];
          no_more = λ s u q not_yet. elim (cases_eq u p) [
            | inl same ↦ subst (λ (u : ℕ). slot_at new.logs s u q ≡ None) (sym same)
                (let none : (is_past s (Some (r + 1)) && nat_lt q n) ≡ false = ap (λ place. is_past s place && nat_lt q n) (sym own_place) ∙
                (ap (λ (u : ℕ). is_past s (place_at u (after core.state (Step p))) && nat_lt q n) (sym same) ∙ not_yet) in
                let before : (is_past s (place_at p core.state) && nat_lt q n) ≡ false =
                (elim (and_cases (nat_lt s (r + 1)) (nat_lt q n) none) [
                  | inl late ↦ and_left _ (nat_lt q n) (ap (is_past s) steps.at ∙ le-ltb s r (omega (arith, ltb-false s (r + 1) late)))
                  | inr out ↦ and_right (is_past s (place_at p core.state)) _ out
                ]) in
                elim (cases_eq s r) [
                  | inl now ↦ (
                      let out : nat_lt q (length sent) ≡ false =
                      (elim (and_cases (nat_lt s (r + 1)) (nat_lt q n) none) [
                        | inl late ↦ absurd (omega (arith, ltb-false s (r + 1) late, now))
                        | inr out ↦ ap (nat_lt q) made.to_each ∙ out
                      ]) in
                      other s p q (and_right (p == p) _ (and_right (r == s) _ out)) ∙ right.logs.no_more s p q before
                      )
                  | inr apart ↦ earlier s q apart ∙ right.logs.no_more s p q before
                ])
            | inr apart ↦ elsewhere s u q apart
                ∙ right.logs.no_more s u q (ap (λ place. is_past s place && nat_lt q n) (sym (place_after_other core.state p u apart)) ∙ not_yet)
          ];
        }

    pub IsRight-step : p < length core.parts → Reaches (first_state core.limits.partitions core.limits.workers) core.history core.state
        → IsRight job kept new
    IsRight-step within events =
        let n : ℕ = core.limits.partitions in
        let steps = StepsFrom-from_allowed core.state p allowed in
        let own : get_or (set core.parts p (Some part)) p None ≡ Some part = get_or-set_same core.parts p (Some part) None within in
        subst (IsRight job kept) (sym takes.core_is) (IsRightWith-same job kept keeps _ _ (λ q. kept_more kept core (Step p) q events refl) (record {
          within = right.within;
          parts = λ q part' at. elim (cases_eq q p) [
            | inl same ↦ (
                let is : part ≡ part' = same_Some part part' (sym own ∙ (ap (λ (q : ℕ). get_or (set core.parts p (Some part)) q None) (sym same) ∙ at)) in
                subst (λ (q : ℕ). HoldsAt job core.graph (keeps q) n q (place_at q (after core.state (Step p))) part') (sym same)
                (subst (λ place. HoldsAt job core.graph (keeps p) n p place part') (sym (place_after_own core.state p steps.from steps.at))
                (subst (HoldsShare job (keeps p) core.graph n p (steps.from + 1)) is (is_step steps.from steps.at).holds))
                )
            | inr apart ↦ subst (λ place. HoldsAt job core.graph (keeps q) n q place part') (sym (place_after_other core.state p q apart))
                (right.parts q part' (sym (get_or-set_other core.parts p q (Some part) None apart) ∙ at))
          ];
          logs = LogsHold-step;
          shown = right.shown;
          run_totals = right.run_totals;
          ending = right.ending;
          at_end = right.at_end;
          warm = right.warm;
        }))

-- what a part's step promises is what a step taken in asks for
pub IsStepOf-from_HasMadeStep : {V M : Type 0} (job : Job V M) (kept : Option Rows) {P C A : Type 0} (core : Progress P C A V M) (p r : ℕ)
    (part : PartState V M) (sent : List (LoggedBundle M)) (value_eq : V → V → Bool) (message_eq : M → M → Bool) (calls calls_after : ℕ)
    → place_at p core.state ≡ Some r
    → parts_of.HasMadeStep job value_eq message_eq (kept_for kept core p) core.graph core.limits.partitions p r part sent calls calls_after
    → IsStepOf job kept core p part sent
IsStepOf-from_HasMadeStep job kept core p r part sent value_eq message_eq calls calls_after at stepped s is =
    let made : IsStepFrom job (kept_for kept core p) core.graph core.limits.partitions p r part sent = record {
      holds = record { part_run = stepped.part_run.holds; stats = stepped.stats };
      to_each = stepped.part_run.to_each;
      sends = stepped.part_run.sends;
    } in
    subst (λ (s : ℕ). IsStepFrom job (kept_for kept core p) core.graph core.limits.partitions p s part sent) (same_Some r s (sym at ∙ is)) made

-- what a step borrowed is what it asks for: the same by other names
module _ {V M : Type 0} (job : Job V M) (kept : Option Rows) {P C A : Type 0} (core : Progress P C A V M) (p r : ℕ) (part : PartState V M)
    (step_input : HasStepInput job kept core p r part) (logs : Slots M) (visible : Visible) (old_logs : Option (Slots M))
    (old_visible : Option Visible) where
  pub borrowed_run : logs ≡ core.logs → visible ≡ visible_at job core.graph r → IsStepInput job core.graph core.limits.partitions p r logs visible
  borrowed_run same shows = subst₂ (IsStepInput job core.graph core.limits.partitions p r) (sym same) (sym shows) step_input.step_input

  pub borrowed_warm : logs ≡ core.logs → old_logs ≡ logs_in r core.kept → old_visible ≡ visible_in r core.kept
      → IsOldStepInput job (kept_for kept core p) core.limits.partitions p r logs old_logs old_visible
  borrowed_warm same old shows =
      subst (λ logs. IsOldStepInput job (kept_for kept core p) core.limits.partitions p r logs old_logs old_visible) (sym same)
      (subst₂ (IsOldStepInput job (kept_for kept core p) core.limits.partitions p r core.logs) (sym old) (sym shows) step_input.warm)
