-- A step against an old run takes a partition's share of the run one superstep further.
use Rattle.std.proofs.Common.{◌≡◌, ℕ, suc, ◌+◌, ◌<◌, ◌≤◌, ◌==◌, ◌&&◌, ◌||◌, Bool, true, false, not, cond, List, [], ◌∷◌, ◌++◌, map, length, Option, None}
use Rattle.std.proofs.Common.{Some, option_map, refl, sym, ap, ap₂, ◌∙◌, arith, subst, true≢false, flat_map, count_by, inl, inr, ◌⊎◌, le_refl}
use Rattle.std.specs.List.{AllByRecursion, slice_get}
use Rattle.std.specs.List.Sorted.{IsStrictlySortedBy}
use Rattle.std.specs.Ordering.{nat_cmp}
use Rattle.std.proofs.lemmas.Bool.{cases_Bool, eqb-true}
use Rattle.std.proofs.lemmas.List.{get_or-set_other, length-set}
use Rattle.std.proofs.lemmas.Option.{none-some, same_Some}
use Rattle.pg_graph.specs.Rows.{HasRisingIds, Rows}
use Rattle.pg_inbox.specs.Handed.{AreAllOf, LoggedBundle, MessageLists, Outbox, TellsChanges, sent_by, staying}
use Rattle.pg_inbox.specs.LoggedBundle.{Slots, slot_at}
use Rattle.pg_map.specs.Entries.{ChangesRise, value_at, with_changes}
use Rattle.pg_map.proofs.Changing.{unchanged_at, value_at-with_changes}
use Rattle.pg_model.specs.Affected.{IsUnaffected}
use Rattle.pg_model.specs.ByIds.{state_at}
use Rattle.pg_model.specs.Job.{Combining, Job, Program}
use Rattle.pg_model.specs.Needed.{inputs_at, is_changed, is_needed, needed_in}
use Rattle.pg_model.specs.Run.{present_at, run_length, view_at}
use Rattle.pg_model.specs.Share.{belongs, records_in, sent_to}
use Rattle.pg_model.specs.Superstep.{capped, has_id, view_of}
use Rattle.pg_model.proofs.LawsAffected.{IsTakenOver-from_IsUnaffected, is_needed-IsUnaffected, same_inputs-IsUnaffected}
use Rattle.pg_model.proofs.LawsDecides.{Decides-view_eq}
use Rattle.pg_model.proofs.LawsInputs.{no_inputs_missing}
use Rattle.pg_model.proofs.LawsLists.{all_weaker}
use Rattle.pg_model.proofs.LawsPresent.{IsIdleAt-from_inputs, with_inbox_at-none}
use Rattle.pg_model.proofs.LawsRising.{has_id-filter}
use Rattle.pg_model.proofs.LawsSharesAlike.{record_in_share}
use Rattle.pg_model.specs.declared.record.Record.{Record}
use Rattle.pg_model.specs.declared.view.View.{View}
use Rattle.pg_model.specs.declared.view.Visible.{Visible}
use Rattle.pg_part_compute.specs.VertexPairs.{IsStepDelta}
use Rattle.pg_part_compute.specs.Diverged.{AreEqSound, HaveSameIds, are_quiescent, has_same_state, quiescent_among, live_among, without}
use Rattle.pg_part_compute.specs.Found.{IsEqSound, are_inactive, is_reused, is_run, is_same_view, is_taken_over, reads}
use Rattle.pg_part_routing.specs.Routes.{HasMessages, as_sends, bundle_in, bundle_sent, bundles_before}
use Rattle.pg_part.specs.StepInput.{IsOldStepView, IsOldStepInput, HasOldLogs}
use Rattle.pg_trace.specs.Trace.{reaching, Trace, records_of, state_at as trace_state_at, with_replaced, with_superstep}
use Rattle.pg_part.specs.PartRun.{AreAllChanged, AreTheOnlyWarm, HasStepped, PartRunState, Holds, IsSentTo, kept_length}
use Rattle.pg_part_routing.specs.Sending.{IsRebuilt, items_to, pairs_of, sends_by_records, sends_of}
use Rattle.pg_part.specs.Warm.{IsFinishedStep, IsStepDeltaWarm}
use Rattle.pg_part_compute.specs.declared.execution.StepDelta.{StepDelta}
use Rattle.pg_part_compute.specs.declared.found.VertexPair.{VertexPair}
use Rattle.pg_part.proofs.OldStep.{IsWarmStep, WasRead, all_are_read, all_mine, all_were_read, are_candidates, vertex_pairs}
use Rattle.pg_part.proofs.OldStep.{candidates_rise, is_live, kept, kept_holds, old_reads_nothing, reads_nothing}
use Rattle.pg_part_compute.proofs.Changing.{entries, entries-among, entries-rise, stated_at}
use Rattle.pg_inbox.proofs.Among.{both, in_either, in_neither}
use Rattle.pg_part_compute.proofs.Looking.{failing, passing, same_after}
use Rattle.pg_part_compute.proofs.Coverage.{records_held}
use Rattle.pg_part_routing.proofs.Delivery.{sent_rise}
use Rattle.pg_part_compute.proofs.Finding.{state_in_run}
use Rattle.pg_part_routing.proofs.Rebuilt.{sender_rebuilt}
use Rattle.pg_part_compute.proofs.ReadVertices.{IsRead, gives_record, reads_inputs}
use Rattle.pg_part_compute.proofs.Recording.{IsCounted, IsRight, counted_are, no_other_record, records_are, records_rise}
use Rattle.pg_part_compute.proofs.Sames.{at_rest_then, reads_same, runs_if_changed}
use Rattle.pg_part_routing.proofs.Outbox.{by_records}
use Rattle.pg_part.proofs.RunStepping.{stepped_holds}
use Rattle.pg_trace.specs.OfRun.{HoldsRun}
use Rattle.pg_trace.proofs.RunStates.{state_of_run}

module _ {V M : Type 0} (value_eq : V → V → Bool) (message_eq : M → M → Bool) (job : Job V M) (old rows : Rows) (n p s : ℕ)
    (part_run : PartRunState V M) (logs old_logs : Slots M) (old_view view : View) (bundles : List (MessageLists M)) (before : ℕ) (step_delta : StepDelta V M)
    (w : IsWarmStep value_eq message_eq job old rows n p s part_run logs old_logs old_view view bundles before step_delta) where
  there : s < run_length job old
  there = w.has_logs.there

  -- the trace of the old run, and the vertex pairs
  abbrev pub trace : Trace V M
  trace = kept value_eq message_eq job old rows n p s part_run logs old_logs old_view view bundles before step_delta w

  trace_holds : HoldsRun job old n p s trace
  trace_holds = kept_holds value_eq message_eq job old rows n p s part_run logs old_logs old_view view bundles before step_delta w

  abbrev cs : List (VertexPair V M)
  cs = vertex_pairs value_eq message_eq job old rows n p s part_run logs old_logs old_view view bundles before step_delta w

  rise : IsStrictlySortedBy nat_cmp (map (λ c. c.id) cs)
  rise = candidates_rise value_eq message_eq job old rows n p s part_run logs old_logs old_view view bundles before step_delta w

  -- what is known of each of them
  record IsKnown (c : VertexPair V M) : Type 0 where
    now : IsRead job rows n p s c
    once : WasRead job old n p s c
    eq_is_sound : IsEqSound value_eq message_eq c

  known : AllByRecursion IsKnown cs
  known =
      each cs
      (all_are_read value_eq message_eq job old rows n p s part_run logs old_logs old_view view bundles before step_delta w)
      (all_were_read value_eq message_eq job old rows n p s part_run logs old_logs old_view view bundles before step_delta w)
      w.is.eq_is_sound
    where
      each : (cs : List (VertexPair V M)) → AllByRecursion (IsRead job rows n p s) cs → AllByRecursion (WasRead job old n p s) cs
          → AllByRecursion (IsEqSound value_eq message_eq) cs → AllByRecursion IsKnown cs
      each [] a b c = tt
      each (x ∷ cs) a b c = (record { now = a.0; once = b.0; eq_is_sound = c.0 }, each cs a.1 b.1 c.1)

  unaffected : (id : ℕ) → belongs n p id ≡ true → has_id part_run.quiescent id ≡ false → has_id (map (λ c. c.id) cs) id ≡ false → IsUnaffected job old rows s id
  unaffected id mine live other =
      (are_candidates value_eq message_eq job old rows n p s part_run logs old_logs old_view view bundles before step_delta w).others id
      (is_live value_eq message_eq job old rows n p s part_run logs old_logs old_view view bundles before step_delta w id mine live) other

  -- another vertex that is quiescent in both runs isn't executed in either
  old_idle : (id : ℕ) → belongs n p id ≡ true → has_id part_run.quiescent id ≡ true → has_id (map (λ c. c.id) cs) id ≡ false → inputs_at job old s id ≡ None
  old_idle = old_reads_nothing value_eq message_eq job old rows n p s part_run logs old_logs old_view view bundles before step_delta w

  idle : (id : ℕ) → belongs n p id ≡ true → has_id part_run.quiescent id ≡ true → has_id (map (λ c. c.id) cs) id ≡ false → inputs_at job rows s id ≡ None
  idle = reads_nothing value_eq message_eq job old rows n p s part_run logs old_logs old_view view bundles before step_delta w

  abbrev taken : VertexPair V M → Bool
  taken c = is_taken_over value_eq message_eq (is_same_view old_view view) c

  abbrev reused : VertexPair V M → Bool
  reused c = is_reused value_eq message_eq (is_same_view old_view view) c

  abbrev gives : VertexPair V M → Option (Record V M)
  gives c = option_map job.program.step (reads view c.new)

  -- ---- inputs

  inputs_now : (c : VertexPair V M) → IsKnown c → reads view c.new ≡ inputs_at job rows s c.id
  inputs_now c k = reads_inputs job rows n p s w.some part_run.trace logs w.holds.run w.has w.within view w.sees c k.now

  inputs_once : (c : VertexPair V M) → IsKnown c → reads old_view c.old ≡ inputs_at job old s c.id
  inputs_once c k =
      reads_inputs job old n p s w.some trace old_logs trace_holds w.has_logs.received there old_view w.saw
      (record { id = c.id; old = None; new = c.old }) (record { mine = k.once.mine; new = k.once.old })

  -- one that is taken over read the same
  same_inputs : (c : VertexPair V M) → IsKnown c → taken c ≡ true → inputs_at job old s c.id ≡ inputs_at job rows s c.id
  same_inputs c k h =
      let parts = both (is_same_view old_view view) _ h in
      let views : old_view ≡ view = (Decides-view_eq (λ (x y : ℕ). true) (λ (x y : ℕ). true) old_view view).0 parts.0 in
      let same = reads_same value_eq message_eq view c.old c.new parts.1 (k.eq_is_sound parts.1) in
      sym (inputs_once c k) ∙ (ap (λ v. reads v c.old) views ∙ (same ∙ inputs_now c k))

  -- and one that is left reads the same, or nothing in both
  left_same : (c : VertexPair V M) → IsKnown c → reused c ≡ true → inputs_at job old s c.id ≡ inputs_at job rows s c.id
  left_same c k h = by (taken c) refl h
    where
      by : (b : Bool) → taken c ≡ b → (b || are_inactive c.old c.new) ≡ true → inputs_at job old s c.id ≡ inputs_at job rows s c.id
      by true e g = same_inputs c k e
      by false e g =
          let none = at_rest_then value_eq message_eq old_view view c.old c.new g in
          sym (inputs_once c k) ∙ (none.0 ∙ (sym none.1 ∙ inputs_now c k))

  -- ---- records

  held_before : records_of s part_run.trace ≡ records_in job old n p s
  held_before = w.holds.warm.later s (le_refl s) there

  old_rising : HasRisingIds old
  old_rising = w.holds.warm.whole.rise

  rising : HasRisingIds rows
  rising = w.holds.run.rise

  abbrev changes : List (ℕ × Option (Record V M))
  changes = entries (λ c. c.id) reused gives cs

  changed : step_delta.changes ≡ changes
  changed = w.is.changes_are

  changes_rise : ChangesRise changes
  changes_rise = entries-rise (λ c. c.id) reused gives cs rise

  abbrev dirty_ids : List ℕ
  dirty_ids = step_delta.dirty_ids.items

  not_vertex_pair : (id : ℕ) → has_id dirty_ids id ≡ false → has_id (map (λ c. c.id) cs) id ≡ false
  not_vertex_pair id other = sym (ap (λ l. has_id l id) w.is.dirty_ids_are) ∙ other

  -- one that isn't a vertex pair reads the same in both runs
  same_reading : (id : ℕ) → belongs n p id ≡ true → has_id (map (λ c. c.id) cs) id ≡ false → inputs_at job old s id ≡ inputs_at job rows s id
  same_reading id mine other =
      elim (cases_Bool (has_id part_run.quiescent id)) [
        | inl both_quiescent ↦ old_idle id mine both_quiescent other ∙ sym (idle id mine both_quiescent other)
        | inr live ↦ same_inputs-IsUnaffected job old rows s id w.within (unaffected id mine live other)
      ]

  -- one that isn't a vertex pair, or of another partition, has the same record in both runs
  same_record : (id : ℕ) → has_id (map (λ c. c.id) cs) id ≡ false → value_at id (records_in job old n p s) ≡ value_at id (records_in job rows n p s)
  same_record id other =
      elim (cases_Bool (belongs n p id)) [
        | inl mine ↦
            record_in_share job old n p s id old_rising there mine
            ∙ (ap (option_map job.program.step) (same_reading id mine other) ∙ sym (record_in_share job rows n p s id rising w.within mine))
        | inr apart ↦ no_other_record job old n p s id apart ∙ sym (no_other_record job rows n p s id apart)
      ]

  right : (c : VertexPair V M) → IsKnown c → IsRight reused gives (records_in job old n p s) (records_in job rows n p s) c
  right c k = record {
    kept = λ h.
        record_in_share job old n p s c.id old_rising there k.now.mine
        ∙ (ap (option_map job.program.step) (left_same c k h) ∙ sym (record_in_share job rows n p s c.id rising w.within k.now.mine));
    given_is = λ _. gives_record job rows n p s w.some part_run.trace logs w.holds.run w.has w.within view w.sees c k.now;
  }

  new_records : with_changes changes (records_in job old n p s) ≡ records_in job rows n p s
  new_records =
      records_are reused gives (records_in job old n p s) (records_in job rows n p s) cs rise
      (all_weaker IsKnown (IsRight reused gives (records_in job old n p s) (records_in job rows n p s)) right cs known)
      (records_rise job old n p s old_rising) (records_rise job rows n p s rising) same_record

  -- ---- executions

  unneeded : (id : ℕ) → inputs_at job rows s id ≡ None → is_needed value_eq message_eq job (Some old) rows s id ≡ false
  unneeded id none = ap (is_changed value_eq message_eq (inputs_at job old s id)) none

  counted : count_by (is_run value_eq message_eq job.program view (is_same_view old_view view)) cs
      ≡ needed_in value_eq message_eq job (Some old) rows (belongs n p) s
  counted =
      counted_are value_eq message_eq job (Some old) rows n p s (is_run value_eq message_eq job.program view (is_same_view old_view view)) cs rising rise
      (all_weaker IsKnown
      (IsCounted value_eq message_eq job (Some old) rows n p s (is_run value_eq message_eq job.program view (is_same_view old_view view))) (λ c k. record {
        mine = k.now.mine;
        same = runs_if_changed value_eq message_eq old_view view c.old c.new ∙ ap₂ (is_changed value_eq message_eq) (inputs_once c k) (inputs_now c k);
      }) cs known)
      (λ id removed. unneeded id (no_inputs_missing job rows s id (with_inbox_at-none id (present_at job rows s) removed)))
      (λ id mine other. elim (cases_Bool (has_id part_run.quiescent id)) [
        | inl both_quiescent ↦ unneeded id (idle id mine both_quiescent other)
        | inr live ↦ is_needed-IsUnaffected job old rows value_eq message_eq w.values w.messages s id (unaffected id mine live other)
      ])

  -- ---- what is sent

  sendings_are : (g : Rows) (q : ℕ) → as_sends (sent_to job g n p q s) ≡ items_to n q (sends_by_records (records_in job g n p s))
  sendings_are g q = sym (by_records n q (records_in job g n p s))

  abbrev retracted : ℕ → List (ℕ × ℕ)
  retracted q = items_to n q (flat_map (pairs_of trace s) changes)

  abbrev added : ℕ → Outbox M
  added q = items_to n q (flat_map sends_of changes)

  all_sent : (q : ℕ) → AreAllOf (staying (retracted q) (as_sends (sent_to job old n p q s)) ∷ added q ∷ []) (as_sends (sent_to job rows n p q s))
  all_sent q = record {
    rise = sent_rise job rows n p s rising q;
    same = λ u.
        ap (sent_by u) (sendings_are rows q)
        ∙ (sender_rebuilt n q u trace s changes (records_in job old n p s) (records_in job rows n p s) changes_rise (records_rise job old n p s old_rising)
        (records_rise job rows n p s rising) (ap (value_at u) held)
        (sym (ap (value_at u) new_records) ∙ value_at-with_changes changes (records_in job old n p s) u changes_rise (records_rise job old n p s old_rising))
        ∙ ap (λ l. sent_by u (staying (retracted q) l) ++ (sent_by u (added q) ++ [])) (sym (sendings_are old q)));
  }
    where
      held : records_of s trace ≡ records_in job old n p s
      held = records_held job old n p trace s (run_length job old) w.holds.warm.whole there

  sent_is : (q : ℕ) (slot logged : Option (LoggedBundle M)) → bundle_in slot ≡ Some (bundle_sent job old n p q s)
      → IsRebuilt job.combining (retracted q) (added q) slot logged → IsSentTo job (Some old) rows n p q s logged
  sent_is q slot None was rebuilt = absurd (nothing slot rebuilt)
    where
      nothing : (slot : Option (LoggedBundle M)) → IsRebuilt job.combining (retracted q) (added q) slot None → ⊥
      nothing None m = m
      nothing (Some before) m = m
  sent_is q None (Some logged) was rebuilt = absurd (none-some (bundle_sent job old n p q s) was)
  sent_is q (Some was_sent) (Some logged) was rebuilt =
      let same : was_sent.bundle ≡ bundle_sent job old n p q s = same_Some was_sent.bundle (bundle_sent job old n p q s) was in (
        rebuilt.0 (as_sends (sent_to job old n p q s)) (as_sends (sent_to job rows n p q s)) (sent_rise job old n p s old_rising q) (all_sent q) same,
        λ _. subst (λ b. TellsChanges b logged) same rebuilt.1,
      )

  -- ---- states

  -- where the trace goes on: one superstep further, and the old run's later ones as before
  abbrev pub next_trace : Trace V M
  next_trace = with_replaced s step_delta.changes (reaching s part_run.trace)

  reached : reaching s part_run.trace ≡ part_run.trace
  reached = ap (λ (b : Bool). cond b (with_superstep [] part_run.trace) part_run.trace) (by (length part_run.trace.records == s) refl)
    where
      by : (b : Bool) → (length part_run.trace.records == s) ≡ b → b ≡ false
      by true e =
          let long = w.holds.supersteps in
          let same = eqb-true (length part_run.trace.records) s e in
          absurd (omega (arith, long, same, w.has_logs.there))
      by false e = refl

  records_left : with_changes step_delta.changes (records_of s (reaching s part_run.trace)) ≡ records_in job rows n p s
  records_left = ap₂ with_changes changed (ap (records_of s) reached ∙ held_before) ∙ new_records

  next_holds : HoldsRun job rows n p (s + 1) next_trace
  next_holds =
      stepped_holds job rows n p s part_run.trace step_delta.changes w.holds.run
      (let long = w.holds.supersteps in omega (arith, long, w.has_logs.there)) records_left

  later_records : (t : ℕ) → s + 1 ≤ t → t < run_length job old → records_of t next_trace ≡ records_in job old n p t
  later_records t low high =
      get_or-set_other (reaching s part_run.trace).records s t (with_changes step_delta.changes (records_of s (reaching s part_run.trace))) []
      (λ e. omega (arith, low, e))
      ∙ (ap (records_of t) reached ∙ w.holds.warm.later t (omega (arith, low)) high)

  next : suc s ≡ s + 1
  next = omega arith

  -- the states of an id as the next superstep begins, as the traces have them
  old_state_then : (id : ℕ) → belongs n p id ≡ true → trace_state_at id (s + 1) trace ≡ state_at job old (s + 1) id
  old_state_then id mine = state_of_run trace id (s + 1) job old n p (run_length job old) w.holds.warm.whole mine (omega (arith, there))

  state_then : (id : ℕ) → belongs n p id ≡ true → trace_state_at id (s + 1) next_trace ≡ state_at job rows (s + 1) id
  state_then id mine = state_in_run job rows n p w.some next_trace logs id mine (s + 1) next_holds

  abbrev live : List ℕ
  live = live_among value_eq trace next_trace (s + 1) dirty_ids

  abbrev quiescent : List ℕ
  quiescent = quiescent_among value_eq trace next_trace (s + 1) dirty_ids

  -- what isn't looked at
  unseen : (id : ℕ) → belongs n p id ≡ true → has_id dirty_ids id ≡ false → has_id part_run.quiescent id ≡ false
      → (state_at job old s id ≡ state_at job rows s id) × (state_at job old (suc s) id ≡ state_at job rows (suc s) id)
  unseen id mine other off =
      let alike = unaffected id mine off (not_vertex_pair id other) in
      ((alike.alike there).state, (IsTakenOver-from_IsUnaffected job old rows s id w.within alike there).state)

  still : (id : ℕ) → belongs n p id ≡ true → has_id dirty_ids id ≡ false → has_id part_run.quiescent id ≡ true
      → (state_at job old (suc s) id ≡ state_at job old s id) × (state_at job rows (suc s) id ≡ state_at job rows s id)
  still id mine other both_quiescent = (
    (IsIdleAt-from_inputs job old s id there (old_idle id mine both_quiescent (not_vertex_pair id other))).state,
    (IsIdleAt-from_inputs job rows s id w.within (idle id mine both_quiescent (not_vertex_pair id other))).state,
  )

  -- ---- the step

  -- what the step may have changed: all else has the same transition as in the old run
  only : AreTheOnlyWarm job old rows n p s dirty_ids
  only = record {
    there = there;
    rise = subst (IsStrictlySortedBy nat_cmp) (sym w.is.dirty_ids_are) rise;
    mine = stated_at (λ k. belongs n p k ≡ true) dirty_ids
        (subst (AllByRecursion (λ k. belongs n p k ≡ true)) (sym w.is.dirty_ids_are)
        (all_mine value_eq message_eq job old rows n p s part_run logs old_logs old_view view bundles before step_delta w));
    records = λ id other.
        sym (unchanged_at changes (records_in job old n p s) id (entries-among (λ c. c.id) reused gives id cs (not_vertex_pair id other)))
        ∙ ap (value_at id) new_records;
    states = λ id mine other. elim (cases_Bool (has_id part_run.quiescent id)) [
      | inl both_quiescent ↦ inr (still id mine other both_quiescent)
      | inr off ↦ inl (unseen id mine other off)
    ];
  }

  -- one that isn't found to differ has the state of the old run
  alike_then : (id : ℕ) → belongs n p id ≡ true → AreEqSound value_eq trace next_trace (s + 1) dirty_ids
      → has_id (live ++ (without part_run.quiescent dirty_ids ++ quiescent)) id ≡ false → state_at job old (s + 1) id ≡ state_at job rows (s + 1) id
  alike_then id mine eq_is_sound apart =
      elim (cases_Bool (has_id dirty_ids id)) [ inl same_view ↦ compared same_view | inr other ↦ elsewhere other ]
    where
      both_parts : (has_id live id ≡ false) × (has_id (without part_run.quiescent dirty_ids ++ quiescent) id ≡ false)
      both_parts = in_neither live (without part_run.quiescent dirty_ids ++ quiescent) _ refl id apart

      last_parts : (has_id (without part_run.quiescent dirty_ids) id ≡ false) × (has_id quiescent id ≡ false)
      last_parts = in_neither (without part_run.quiescent dirty_ids) quiescent _ refl id both_parts.1

      compared : has_id dirty_ids id ≡ true → state_at job old (s + 1) id ≡ state_at job rows (s + 1) id
      compared same_view =
          sym (old_state_then id mine)
          ∙ (stated_at (λ k. has_same_state value_eq trace next_trace (s + 1) k ≡ true → trace_state_at k (s + 1) trace ≡ trace_state_at k (s + 1) next_trace)
          dirty_ids eq_is_sound id same_view
          (by (has_same_state value_eq trace next_trace (s + 1) id) (are_quiescent (trace_state_at id (s + 1) trace) (trace_state_at id (s + 1) next_trace))
          (failing _ dirty_ids id same_view both_parts.0) (failing _ dirty_ids id same_view last_parts.1))
          ∙ state_then id mine)
        where
          by : (a b : Bool) → (not a && not b) ≡ false → (not a && b) ≡ false → a ≡ true
          by true b e f = refl
          by false true e f = sym f
          by false false e f = sym e

      elsewhere : has_id dirty_ids id ≡ false → state_at job old (s + 1) id ≡ state_at job rows (s + 1) id
      elsewhere other =
          subst (λ k. state_at job old k id ≡ state_at job rows k id) next (unseen id mine other (off (has_id part_run.quiescent id) refl)).1
        where
          off : (b : Bool) → has_id part_run.quiescent id ≡ b → has_id part_run.quiescent id ≡ false
          off true e =
              absurd (true≢false
              (sym (has_id-filter (λ k. not (has_id dirty_ids k)) part_run.quiescent id ∙ ap₂ (λ (a b : Bool). not a && b) other e) ∙ last_parts.0))
          off false e = e

  -- those that are quiescent are so in both runs
  rest_then : (id : ℕ) → belongs n p id ≡ true → has_id (without part_run.quiescent dirty_ids ++ quiescent) id ≡ true
      → are_quiescent (state_at job old (s + 1) id) (state_at job rows (s + 1) id) ≡ true
  rest_then id mine among =
      elim (in_either (without part_run.quiescent dirty_ids) quiescent id among) [ inl before ↦ as_before before | inr found ↦ as_found found ]
    where
      as_before : has_id (without part_run.quiescent dirty_ids) id ≡ true → are_quiescent (state_at job old (s + 1) id) (state_at job rows (s + 1) id) ≡ true
      as_before before =
          let parts = passing (λ k. not (has_id dirty_ids k)) part_run.quiescent id before in
          let stays = still id mine (off (has_id dirty_ids id) parts.0) parts.1 in
          subst (λ k. are_quiescent (state_at job old k id) (state_at job rows k id) ≡ true) next
          (ap₂ are_quiescent stays.0 stays.1 ∙ w.holds.warm.rest id mine parts.1 there)
        where
          off : (b : Bool) → not b ≡ true → b ≡ false
          off true h = absurd (true≢false (sym h))
          off false h = refl

      as_found : has_id quiescent id ≡ true → are_quiescent (state_at job old (s + 1) id) (state_at job rows (s + 1) id) ≡ true
      as_found found =
          sym (ap₂ are_quiescent (old_state_then id mine) (state_then id mine))
          ∙ (both (not (has_same_state value_eq trace next_trace (s + 1) id)) _ (passing _ dirty_ids id found).0).1

  pub warm_step : (after : PartRunState V M) (sent : List (LoggedBundle M)) (rested : List ℕ)
      → HaveSameIds rested (without part_run.quiescent dirty_ids ++ quiescent)
      → after ≡ record part_run {
        place = s + 1;
        trace = next_trace;
        kept = Some trace;
        live = live;
        quiescent = rested;
        changed = dirty_ids;
        was_warm = true;
      }
      → AreEqSound value_eq trace next_trace (s + 1) dirty_ids
      → length sent ≡ n
      → ((q : ℕ) → q < n → IsRebuilt job.combining (items_to n q (flat_map (pairs_of trace s) step_delta.changes))
      (items_to n q (flat_map sends_of step_delta.changes))
      (slot_at old_logs s p q) (slice_get sent q))
      → HasStepped job value_eq message_eq (Some old) rows n p s after sent before step_delta.meter
  warm_step after sent rested rested_are advanced eq_is_sound to_each rebuilt = record {
    holds = subst (Holds job (Some old) rows n p (s + 1)) (sym advanced) (record {
      partition_is = w.holds.partition_is;
      partitions_are = w.holds.partitions_are;
      missing_is = w.holds.missing_is;
      place_is = refl;
      run = next_holds;
      supersteps =
          let more = length-set (reaching s part_run.trace).records s (with_changes step_delta.changes (records_of s (reaching s part_run.trace))) in
          let same = ap (λ (t : Trace V M). length t.records) reached in
          let long = w.holds.supersteps in
          omega (arith, more, same, long, w.has_logs.there);
      warm = record {
        trace = trace;
        is = refl;
        whole = w.holds.warm.whole;
        later = later_records;
        others = λ id mine apart within. alike_then id mine eq_is_sound (apart_from id apart);
        as_ended = λ id mine apart low.
            subst (λ k. state_at job old k id ≡ state_at job rows (s + 1) id) (let e : s + 1 ≡ run_length job old = omega (arith, low, w.has_logs.there) in e)
            (alike_then id mine eq_is_sound (apart_from id apart));
        rest = λ id mine among _. rest_then id mine (sym (rested_are id) ∙ among);
      };
    });
    to_each = to_each;
    sends = λ q below.
        sent_is q (slot_at old_logs s p q) (slice_get sent q) (w.has_logs.sent q below)
        (subst (λ l. IsRebuilt job.combining (items_to n q (flat_map (pairs_of trace s) l)) (items_to n q (flat_map sends_of l))
        (slot_at old_logs s p q) (slice_get sent q)) changed (rebuilt q below));
    changed_are = subst (λ (h : PartRunState V M). AreAllChanged job (Some old) rows n p s h.was_warm h.changed) (sym advanced) only;
    counted = w.is.counted ∙ ap (λ k. capped (before + k)) counted;
  }
    where
      apart_from : (id : ℕ) → has_id (live ++ rested) id ≡ false → has_id (live ++ (without part_run.quiescent dirty_ids ++ quiescent)) id ≡ false
      apart_from id apart = sym (same_after live rested (without part_run.quiescent dirty_ids ++ quiescent) rested_are id) ∙ apart

-- ---- the same by what the calls were handed

module _ {V M : Type 0} (value_eq : V → V → Bool) (message_eq : M → M → Bool) (values : (a : V) → value_eq a a ≡ true)
    (messages : (a : M) → message_eq a a ≡ true)
    (part_run : PartRunState V M) (trace : Trace V M) (combining : Option (Combining M)) (program : Program V M) (logs old_logs : Slots M) (old_view view : View)
    (bundles : List (MessageLists M)) (before : ℕ) (step_delta : StepDelta V M) (some : 0 < part_run.partitions) (is_kept : part_run.kept ≡ Some trace)
    (step_delta_warm : IsStepDeltaWarm value_eq message_eq combining (record part_run { kept = None }) trace old_logs program logs old_view view bundles before step_delta)
    (after : PartRunState V M) (sent : List (LoggedBundle M))
    (finish_step : IsFinishedStep value_eq message_eq combining
    (record part_run { kept = None }) trace old_logs step_delta.dirty_ids.items step_delta.changes after sent) where
  module _ (job : Job V M) (old rows : Rows) (program_is : job.program ≡ program) (combining_is : job.combining ≡ combining) where
    abbrev StepsAt : ℕ → ℕ → ℕ → Type 0
    StepsAt n p s =
        Holds job (Some old) rows n p s part_run → s < run_length job rows → HasMessages job rows n p s logs → bundles ≡ bundles_before logs n p s
        → view ≡ view_at job rows s → HasOldLogs job old n p s logs old_logs → old_view ≡ view_at job old s
        → HasStepped job value_eq message_eq (Some old) rows n p s after sent before step_delta.meter

    abbrev emptied : PartRunState V M
    emptied = record part_run { kept = None }

    steps_here : StepsAt part_run.partitions part_run.partition part_run.place
    steps_here holds within has bundled sees has_logs saw =
        warm_step value_eq message_eq job old rows part_run.partitions part_run.partition part_run.place part_run logs old_logs old_view view bundles before step_delta w
        after sent ending.quiescent ending.quiescent_are ending.part_is ending.eq_is_sound ending.sent_is.to_each ending.sent_is.sends
      where
        same : trace ≡ holds.warm.trace
        same = same_Some trace holds.warm.trace (sym is_kept ∙ holds.warm.is)

        run : IsStepDeltaWarm value_eq message_eq job.combining emptied holds.warm.trace old_logs job.program logs old_view view bundles before step_delta
        run =
            subst
            (λ k. IsStepDeltaWarm value_eq message_eq job.combining emptied holds.warm.trace old_logs k logs old_view view bundles before step_delta)
            (sym program_is)
            (subst
            (λ k. IsStepDeltaWarm value_eq message_eq k emptied holds.warm.trace old_logs program logs old_view view bundles before step_delta)
            (sym combining_is)
            (subst (λ k. IsStepDeltaWarm value_eq message_eq combining emptied k old_logs program logs old_view view bundles before step_delta) same step_delta_warm))

        ending : IsFinishedStep value_eq message_eq job.combining emptied holds.warm.trace old_logs step_delta.dirty_ids.items step_delta.changes after sent
        ending =
            subst
            (λ k. IsFinishedStep value_eq message_eq k emptied holds.warm.trace old_logs step_delta.dirty_ids.items step_delta.changes after sent)
            (sym combining_is)
            (subst (λ k. IsFinishedStep value_eq message_eq combining emptied k old_logs step_delta.dirty_ids.items step_delta.changes after sent) same finish_step)

        same_view : Bool
        same_view = is_same_view old_view view

        w : IsWarmStep value_eq message_eq job old rows part_run.partitions part_run.partition part_run.place part_run logs old_logs old_view view bundles before step_delta
        w = record {
          values = values;
          messages = messages;
          some = some;
          holds = holds;
          within = within;
          has = has;
          has_logs = has_logs;
          saw = saw;
          sees = sees;
          bundled = bundled;
          dirty_ids = run.ids;
          looked = run.looked;
          is = subst (λ k. IsStepDelta value_eq message_eq job.program k job.combining view part_run.partitions part_run.partition part_run.place part_run.trace bundles
              (Some (holds.warm.trace, bundles_before old_logs part_run.partitions part_run.partition part_run.place)) run.ids
              (not same_view) same_view before step_delta) holds.missing_is run.is;
          alike = run.alike;
        }

    steps_there : (n p s : ℕ) → StepsAt n p s
    steps_there n p s holds =
        subst (λ k. StepsAt n p k) holds.place_is
        (subst (λ k. StepsAt n k part_run.place) holds.partition_is
        (subst (λ k. StepsAt k part_run.partition part_run.place) holds.partitions_are steps_here)) holds

  pub warm_steps : (job : Job V M) (kept : Option Rows) (rows : Rows) (n p s : ℕ) → job.program ≡ program → job.combining ≡ combining
      → Holds job kept rows n p s part_run → s < run_length job rows → HasMessages job rows n p s logs → bundles ≡ bundles_before logs n p s
      → view ≡ view_at job rows s → IsOldStepView job kept n p s logs old_logs old_view
      → HasStepped job value_eq message_eq kept rows n p s after sent before step_delta.meter
  warm_steps job None rows n p s program_is combining_is holds within has bundled sees step_input = absurd (none-some trace (sym holds.warm ∙ is_kept))
  warm_steps job (Some old) rows n p s program_is combining_is holds within has bundled sees step_input =
      steps_there job old rows program_is combining_is n p s holds within has bundled sees step_input.0 step_input.1

-- a part run that has no trace of an old run is past its end, or there is no old run
pub nothing_kept : {V M : Type 0} (job : Job V M) (kept : Option Rows) (rows : Rows) (n p s : ℕ) (part_run : PartRunState V M) → Holds job kept rows n p s part_run
    → part_run.kept ≡ None → kept_length job kept ≤ s
nothing_kept job None rows n p s part_run holds none = omega arith
nothing_kept job (Some old) rows n p s part_run holds none = absurd (none-some holds.warm.trace (sym none ∙ holds.warm.is))

-- where a step borrows nothing of the old run, it is past its end
pub advanced_past_end_without : {V M : Type 0} (job : Job V M) (kept : Option Rows) (n p r : ℕ) (logs : Slots M) (old_logs : Option (Slots M)) (old_visible : Option Visible)
    → (old_logs ≡ None) ⊎ (option_map (view_of job.program.declared r) old_visible ≡ None)
    → IsOldStepInput job kept n p r logs old_logs old_visible → kept_length job kept ≤ r
advanced_past_end_without job None n p r logs old_logs old_visible none step_input = omega arith
advanced_past_end_without job (Some old) n p r logs None old_visible none step_input = step_input
advanced_past_end_without job (Some old) n p r logs (Some l) None none step_input = step_input
advanced_past_end_without job (Some old) n p r logs (Some l) (Some v) (inl none) step_input = absurd (none-some l (sym none))
advanced_past_end_without job (Some old) n p r logs (Some l) (Some v) (inr none) step_input = absurd (none-some (view_of job.program.declared r v) (sym none))

-- what it borrows of what was visible is what it borrows of what was seen
pub same_view_warm : {V M : Type 0} (job : Job V M) (kept : Option Rows) (n p r : ℕ) (logs : Slots M) (old_logs : Option (Slots M)) (old_visible : Option Visible)
    (l : Slots M) (view : View) → old_logs ≡ Some l → option_map (view_of job.program.declared r) old_visible ≡ Some view
    → IsOldStepInput job kept n p r logs old_logs old_visible → IsOldStepView job kept n p r logs l view
same_view_warm job None n p r logs old_logs old_visible l view is_l same_view step_input = tt
same_view_warm job (Some old) n p r logs None old_visible l view is_l same_view step_input = absurd (none-some l is_l)
same_view_warm job (Some old) n p r logs (Some l') None l view is_l same_view step_input = absurd (none-some view same_view)
same_view_warm job (Some old) n p r logs (Some l') (Some v) l view is_l same_view step_input = (
  subst (HasOldLogs job old n p r logs) (same_Some l' l is_l) step_input.0,
  sym (same_Some (view_of job.program.declared r v) view same_view) ∙ ap (view_of job.program.declared r) step_input.1,
)
