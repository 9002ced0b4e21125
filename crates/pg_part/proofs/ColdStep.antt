-- A step from scratch, or past the end of the old run.
use Rattle.std.proofs.Common.{◌≡◌, ℕ, suc, ◌+◌, ◌<◌, ◌≤◌, Bool, true, false, List, [], ◌++◌, map, length, Option, None, Some, option_map}
use Rattle.std.proofs.Common.{is_some, refl, sym, ap, ◌∙◌, arith, subst, true≢false, flat_map, count_by, inl, inr}
use Rattle.std.specs.List.{AllByRecursion, slice_get}
use Rattle.std.specs.List.Sorted.{IsStrictlySortedBy}
use Rattle.std.specs.Ordering.{nat_cmp}
use Rattle.std.proofs.lemmas.Bool.{cases_Bool, false_from_ne_true}
use Rattle.std.proofs.lemmas.List.{length-set}
use Rattle.pg_graph.specs.Rows.{Rows}
use Rattle.pg_inbox.specs.Handed.{LoggedBundle, MessageLists, bundle_of}
use Rattle.pg_inbox.specs.LoggedBundle.{Slots}
use Rattle.pg_map.specs.Entries.{ChangesRise, value_at, with_changes}
use Rattle.pg_map.proofs.Changing.{unchanged_at}
use Rattle.pg_model.specs.Job.{Combining, Inputs, Job, Program}
use Rattle.pg_model.specs.Needed.{inputs_at, is_changed, is_needed, kept_inputs_at, needed_in}
use Rattle.pg_model.specs.Run.{present_at, run_length, view_at}
use Rattle.pg_model.specs.Share.{belongs, records_in, sent_to}
use Rattle.pg_model.specs.Superstep.{capped, has_id, is_active}
use Rattle.pg_model.proofs.LawsInputs.{no_inputs_missing, no_inputs_past}
use Rattle.pg_model.proofs.LawsLists.{all_weaker}
use Rattle.pg_model.proofs.LawsPresent.{IsIdleAt-from_inputs, with_inbox_at-none}
use Rattle.pg_model.proofs.LawsSharesAlike.{record_in_share}
use Rattle.pg_model.specs.declared.record.Record.{Record}
use Rattle.pg_model.specs.declared.view.View.{View}
use Rattle.pg_part_compute.specs.VertexPairs.{AreWorkItems, IsStepDelta, unhalted_ids}
use Rattle.pg_part_routing.specs.Starting.{own}
use Rattle.pg_part_compute.specs.Found.{are_inactive, is_run, reads}
use Rattle.pg_part_routing.specs.Routes.{HasMessages, as_sends, bundles_before}
use Rattle.pg_trace.specs.Trace.{reaching, Trace, records_of, with_replaced}
use Rattle.pg_part.specs.PartRun.{AreAllChanged, AreTheOnly, HasStepped, PartRunState, Holds, IsWarmWith, IsSentTo, TellsWarm, kept_length}
use Rattle.pg_part.specs.Cold.{IsFinishedStepCold, diverged_past_end}
use Rattle.pg_part_routing.specs.Sending.{IsFresh, items_to, sends_of}
use Rattle.pg_part_compute.specs.declared.execution.StepDelta.{StepDelta}
use Rattle.pg_part_compute.specs.declared.found.VertexPair.{VertexPair}
use Rattle.pg_part_compute.proofs.Changing.{entries, entries-among, entries-rise, stated_at}
use Rattle.std.specs.Map.{keys_of}
use Rattle.std.proofs.lemmas.Option.{none-some}
use Rattle.pg_part_compute.proofs.ReadVertices.{IsRead, active_among, all_found, all_own, all_read, gives_record, no_inputs_if_inactive, own_belong, reads_inputs}
use Rattle.pg_part_compute.proofs.Recording.{IsCounted, IsRight, counted_are, no_other_record, records_are, records_rise}
use Rattle.pg_part_compute.proofs.WorkItems.{nothing_rises}
use Rattle.pg_part_routing.proofs.Outbox.{sends_of_changes}
use Rattle.pg_map.proofs.Somes.{somes_are}
use Rattle.pg_part_routing.proofs.Beginning.{own_rise}
use Rattle.pg_part.proofs.RunStepping.{reaching_next, stepped_holds}
use Rattle.pg_inbox.proofs.Among.{in_neither, outside}
use Rattle.pg_part_compute.proofs.Sames.{at_rest_then}
use Rattle.pg_model.specs.ByIds.{state_at}

module _ {V M : Type 0} (value_eq : V → V → Bool) (message_eq : M → M → Bool) (job : Job V M) (kept : Option Rows) (rows : Rows) (n p s : ℕ)
    (some : 0 < n) (part_run : PartRunState V M) (holds : Holds job kept rows n p s part_run) (advanced_past_end : kept_length job kept ≤ s) (within : s < run_length job rows)
    (logs : Slots M) (has : HasMessages job rows n p s logs) (view : View) (sees : view ≡ view_at job rows s) (before : ℕ) (bundles : List (MessageLists M))
    (bundled : bundles ≡ bundles_before logs n p s) (step_delta : StepDelta V M)
    (is : IsStepDelta value_eq message_eq job.program job.missing job.combining view n p s part_run.trace bundles None
    (unhalted_ids s part_run.trace) true false before step_delta) where
  cs : List (VertexPair V M)
  cs = is.vertex_pairs

  work_items_are : AreWorkItems job.combining (bundles_before logs n p s) (unhalted_ids s part_run.trace) true is.work_items
  work_items_are = subst (λ bundles. AreWorkItems job.combining bundles (unhalted_ids s part_run.trace) true is.work_items) bundled is.are

  rise : IsStrictlySortedBy nat_cmp (map (λ c. c.id) cs)
  unfolding cs
  rise = subst (IsStrictlySortedBy nat_cmp) (sym is.ids_are) (own_rise n p is.work_items is.are.rise)

  read : AllByRecursion (IsRead job rows n p s) cs
  unfolding cs
  read =
      all_read job rows n p s some part_run.trace logs holds.run has within cs
      (subst (AllByRecursion (λ k. belongs n p k ≡ true)) (sym is.ids_are) (own_belong n p is.work_items))
      (all_found job.program job.missing job.combining part_run.trace s (bundles_before logs n p s) cs (own n p is.work_items) is.ids_are
      is.new_are
      (all_own _ n p is.work_items work_items_are.delivered))

  -- whoever isn't looked at isn't active
  idle : (id : ℕ) → belongs n p id ≡ true → has_id (map (λ c. c.id) cs) id ≡ false → inputs_at job rows s id ≡ None
  unfolding cs
  idle id mine other =
      no_inputs_if_inactive job rows n p s some part_run.trace logs holds.run has within id (λ x at. false_from_ne_true (is_active x) (λ active.
      true≢false (sym (ap (λ l. has_id l id) is.ids_are
      ∙ active_among job rows n p s some part_run.trace logs holds.run has within (unhalted_ids s part_run.trace) is.work_items work_items_are
      (λ k h. h) id x mine at active) ∙ other)))

  gives : VertexPair V M → Option (Record V M)
  gives c = option_map job.program.step (reads view c.new)

  both_quiescent : VertexPair V M → Bool
  both_quiescent c = are_inactive c.old c.new

  changes : List (ℕ × Option (Record V M))
  changes = entries (λ c. c.id) both_quiescent gives cs

  changed : step_delta.changes ≡ changes
  unfolding changes gives both_quiescent cs
  changed = is.changes_are

  new_records : with_changes changes [] ≡ records_in job rows n p s
  unfolding changes gives both_quiescent
  new_records =
      records_are both_quiescent gives [] (records_in job rows n p s) cs rise
      (all_weaker (IsRead job rows n p s) (IsRight both_quiescent gives [] (records_in job rows n p s)) (λ c r. record {
        kept = λ h.
            sym (ap (option_map job.program.step) (at_rest_then value_eq message_eq view view c.old c.new h).1)
            ∙ gives_record job rows n p s some part_run.trace logs holds.run has within view sees c r;
        given_is = λ _. gives_record job rows n p s some part_run.trace logs holds.run has within view sees c r;
      }) cs read)
      (nothing_rises (Record V M)) (records_rise job rows n p s holds.run.rise)
      (λ id other. elim (cases_Bool (belongs n p id)) [
        | inl mine ↦ sym (record_in_share job rows n p s id holds.run.rise within mine ∙ ap (option_map job.program.step) (idle id mine other))
        | inr apart ↦ sym (no_other_record job rows n p s id apart)
      ])

  counted : count_by (is_run value_eq message_eq job.program view false) cs ≡ needed_in value_eq message_eq job kept rows (belongs n p) s
  counted =
      counted_are value_eq message_eq job kept rows n p s (is_run value_eq message_eq job.program view false) cs holds.run.rise rise
      (all_weaker (IsRead job rows n p s)
      (IsCounted value_eq message_eq job kept rows n p s (is_run value_eq message_eq job.program view false)) (λ c r. record {
        mine = r.mine;
        same = ap is_some (reads_inputs job rows n p s some part_run.trace logs holds.run has within view sees c r) ∙ sym (changed_warm c.id);
      }) cs read)
      (λ id removed. changed_warm id ∙ ap is_some (no_inputs_missing job rows s id (with_inbox_at-none id (present_at job rows s) removed)))
      (λ id mine other. changed_warm id ∙ ap is_some (idle id mine other))
    where
      nothing_kept : (k : Option Rows) → kept_length job k ≤ s → (id : ℕ) → kept_inputs_at job k s id ≡ None
      nothing_kept None h id = refl
      nothing_kept (Some old) h id = no_inputs_past job old s id h

      changed_from : (o : Option (Inputs V M)) → is_changed value_eq message_eq None o ≡ is_some o
      changed_from None = refl
      changed_from (Some i) = refl

      changed_warm : (id : ℕ) → is_needed value_eq message_eq job kept rows s id ≡ is_some (inputs_at job rows s id)
      changed_warm id =
          ap (λ (o : Option (Inputs V M)). is_changed value_eq message_eq o (inputs_at job rows s id)) (nothing_kept kept advanced_past_end id)
          ∙ changed_from (inputs_at job rows s id)

  rises : ChangesRise step_delta.changes
  unfolding changes
  rises = subst ChangesRise (sym changed) (entries-rise (λ c. c.id) both_quiescent gives cs rise)

  -- the records of the superstep are the run's
  records_left : with_changes step_delta.changes (records_of s (reaching s part_run.trace)) ≡ records_in job rows n p s
  records_left =
      ap (λ l. with_changes l (records_of s (reaching s part_run.trace))) changed
      ∙ (ap (with_changes changes) (reaching_next s part_run.trace long).0 ∙ new_records)
    where
      long : length part_run.trace.records ≡ s
      long = let e = holds.supersteps in omega (arith, advanced_past_end, e)

  -- and so is what is sent
  sends_are : (q : ℕ) → items_to n q (flat_map sends_of step_delta.changes) ≡ as_sends (sent_to job rows n p q s)
  sends_are q =
      sends_of_changes n q step_delta.changes (records_in job rows n p s)
      (somes_are step_delta.changes rises ∙ (ap (λ l. with_changes l []) changed ∙ new_records))

  -- what the step changes: no other vertex has a record, and each other is as before
  none_else : (id : ℕ) → has_id step_delta.dirty_ids.items id ≡ false → value_at id (records_in job rows n p s) ≡ None
  unfolding changes cs
  none_else id other =
      ap (value_at id) (sym records_left)
      ∙ (unchanged_at step_delta.changes (records_of s (reaching s part_run.trace)) id unchanged ∙ ap (value_at id) (reaching_next s part_run.trace long).0)
    where
      long : length part_run.trace.records ≡ s
      long = let e = holds.supersteps in omega (arith, advanced_past_end, e)

      unchanged : has_id (keys_of step_delta.changes) id ≡ false
      unchanged =
          ap (λ l. has_id (keys_of l) id) changed
          ∙ entries-among (λ c. c.id) both_quiescent gives id cs (sym (ap (λ l. has_id l id) is.dirty_ids_are) ∙ other)

  no_inputs : (o : Option (Inputs V M)) → option_map job.program.step o ≡ None → o ≡ None
  no_inputs None e = refl
  no_inputs (Some i) e = absurd (none-some (job.program.step i) (sym e))

  only : AreTheOnly job rows n p s step_delta.dirty_ids.items
  unfolding cs
  only = record {
    rise = subst (IsStrictlySortedBy nat_cmp) (sym is.dirty_ids_are) rise;
    mine = stated_at (λ k. belongs n p k ≡ true) step_delta.dirty_ids.items
        (subst (AllByRecursion (λ k. belongs n p k ≡ true)) (sym (is.dirty_ids_are ∙ is.ids_are)) (own_belong n p is.work_items));
    records = none_else;
    states = λ id mine other.
        (IsIdleAt-from_inputs job rows s id within
        (no_inputs (inputs_at job rows s id) (sym (record_in_share job rows n p s id holds.run.rise within mine) ∙ none_else id other))).state;
  }

  pub stepped_cold : (after : PartRunState V M) (sent : List (LoggedBundle M))
      → after ≡ record part_run {
        place = s + 1;
        trace = with_replaced s step_delta.changes (reaching s part_run.trace);
        live = diverged_past_end part_run.kept part_run.live step_delta.dirty_ids.items;
        changed = step_delta.dirty_ids.items;
        was_warm = false;
      }
      → length sent ≡ n
      → ((q : ℕ) → q < n → IsFresh job.combining (items_to n q (flat_map sends_of step_delta.changes)) (slice_get sent q))
      → HasStepped job value_eq message_eq kept rows n p s after sent before step_delta.meter
  unfolding cs
  stepped_cold after sent advanced to_each fresh = record {
    holds = subst (Holds job kept rows n p (s + 1)) (sym advanced) (record {
      partition_is = holds.partition_is;
      partitions_are = holds.partitions_are;
      missing_is = holds.missing_is;
      place_is = refl;
      run = stepped_holds job rows n p s part_run.trace step_delta.changes holds.run (omega (arith, long)) records_left;
      supersteps =
          let more = length-set (reaching s part_run.trace).records s (with_changes step_delta.changes (records_of s (reaching s part_run.trace))) in
          let next = (reaching_next s part_run.trace long).1 in
          omega (arith, more, next, advanced_past_end);
      warm = besides kept advanced_past_end holds.warm;
    });
    to_each = to_each;
    sends = λ q below. sent_is q (slice_get sent q) (fresh q below);
    changed_are = subst (λ (h : PartRunState V M). AreAllChanged job kept rows n p s h.was_warm h.changed) (sym advanced) only;
    counted = is.counted ∙ ap (λ k. capped (before + k)) counted;
  }
    where
      long : length part_run.trace.records ≡ s
      long = let e = holds.supersteps in omega (arith, advanced_past_end, e)

      next_part : PartRunState V M
      next_part = record part_run {
        place = s + 1;
        trace = with_replaced s step_delta.changes (reaching s part_run.trace);
        live = diverged_past_end part_run.kept part_run.live step_delta.dirty_ids.items;
        changed = step_delta.dirty_ids.items;
        was_warm = false;
      }

      besides : (k : Option Rows) → kept_length job k ≤ s → IsWarmWith job k rows n p s part_run → IsWarmWith job k rows n p (s + 1) next_part
      besides None ends warm = warm
      besides (Some old) ends warm = record {
        trace = warm.trace;
        is = warm.is;
        whole = warm.whole;
        later = λ t low high. absurd (omega (arith, low, high, ends));
        others = λ id mine other high. absurd (omega (arith, high, ends));
        as_ended = λ id mine other low.
            let changed_ids = step_delta.dirty_ids.items in
            let all = diverged_past_end part_run.kept part_run.live changed_ids in
            let are_all : all ≡ part_run.live ++ changed_ids = ap (λ (o : Option (Trace V M)). diverged_past_end o part_run.live changed_ids) warm.is in
            let parts = in_neither all part_run.quiescent _ refl id other in
            let apart = in_neither part_run.live changed_ids all are_all id parts.0 in
            warm.as_ended id mine (outside part_run.live part_run.quiescent id apart.0 parts.1) ends
            ∙ (sym (only.states id mine apart.1) ∙ ap (λ (k : ℕ). state_at job rows k id) (let e : suc s ≡ s + 1 = omega arith in e));
        rest = λ id mine among high. absurd (omega (arith, high, ends));
      }

      tells : (k : Option Rows) → kept_length job k ≤ s → (q : ℕ) (logged : LoggedBundle M) → logged.changed ≡ None → TellsWarm job k n p q s logged
      tells None ends q logged none = none
      tells (Some old) ends q logged none = λ high. absurd (omega (arith, high, ends))

      sent_is : (q : ℕ) (o : Option (LoggedBundle M)) → IsFresh job.combining (items_to n q (flat_map sends_of step_delta.changes)) o
          → IsSentTo job kept rows n p q s o
      sent_is q None f = absurd f
      sent_is q (Some logged) f = (f.0 ∙ ap (bundle_of job.combining) (sends_are q), tells kept advanced_past_end q logged f.1)

-- ---- the same by what the call was handed

module _ {V M : Type 0} (value_eq : V → V → Bool) (message_eq : M → M → Bool) (part_run : PartRunState V M) (program : Program V M) (combining : Option (Combining M))
    (view : View) (before : ℕ) (bundles : List (MessageLists M)) (step_delta : StepDelta V M)
    (is : IsStepDelta value_eq message_eq program part_run.missing combining view part_run.partitions part_run.partition part_run.place part_run.trace bundles None
    (unhalted_ids part_run.place part_run.trace) true false before step_delta)
    (some : 0 < part_run.partitions) (after : PartRunState V M) (sent : List (LoggedBundle M))
    (finish_step : IsFinishedStepCold part_run step_delta.dirty_ids.items step_delta.changes combining after sent) where
  pub cold_steps : (job : Job V M) (kept : Option Rows) (rows : Rows) (n p s : ℕ) (logs : Slots M) → job.program ≡ program → job.combining ≡ combining
      → Holds job kept rows n p s part_run → kept_length job kept ≤ s → s < run_length job rows → HasMessages job rows n p s logs
      → bundles ≡ bundles_before logs n p s → view ≡ view_at job rows s → HasStepped job value_eq message_eq kept rows n p s after sent before step_delta.meter
  cold_steps job kept rows n p s logs program_is combining_is holds advanced_past_end within has bundled sees =
      let here = holds.place_is in
      let all = holds.partitions_are in
      stepped_cold value_eq message_eq job kept rows n p s
      (subst (λ k. 0 < k) all some) part_run holds advanced_past_end within logs has view sees before bundles bundled step_delta
      (subst (λ k. IsStepDelta value_eq message_eq job.program job.missing job.combining view n p k part_run.trace bundles None
      (unhalted_ids k part_run.trace) true false before step_delta) here
      (subst (λ k. IsStepDelta value_eq message_eq job.program job.missing job.combining view n k part_run.place part_run.trace bundles None
      (unhalted_ids part_run.place part_run.trace) true false before step_delta) holds.partition_is
      (subst
      (λ k. IsStepDelta value_eq message_eq job.program job.missing job.combining view k part_run.partition part_run.place part_run.trace bundles None
      (unhalted_ids part_run.place part_run.trace) true false before step_delta) all
      (subst
      (λ k. IsStepDelta value_eq message_eq job.program k job.combining view part_run.partitions part_run.partition part_run.place part_run.trace bundles None
      (unhalted_ids part_run.place part_run.trace) true false before step_delta) holds.missing_is
      (subst
      (λ k. IsStepDelta value_eq message_eq job.program part_run.missing k view part_run.partitions part_run.partition part_run.place part_run.trace bundles None
      (unhalted_ids part_run.place part_run.trace) true false before step_delta) (sym combining_is)
      (subst (λ k. IsStepDelta value_eq message_eq k part_run.missing combining view part_run.partitions part_run.partition part_run.place part_run.trace bundles None
      (unhalted_ids part_run.place part_run.trace) true false before step_delta) (sym program_is) is))))))
      after sent
      (finish_step.advanced ∙ ap (λ k. record part_run {
        place = k + 1;
        trace = with_replaced k step_delta.changes (reaching k part_run.trace);
        live = diverged_past_end part_run.kept part_run.live step_delta.dirty_ids.items;
        changed = step_delta.dirty_ids.items;
        was_warm = false;
      }) here)
      (finish_step.to_each ∙ all)
      (λ q below. subst (λ k. IsFresh k (items_to n q (flat_map sends_of step_delta.changes)) (slice_get sent q)) (sym combining_is)
      (subst (λ k. IsFresh combining (items_to k q (flat_map sends_of step_delta.changes)) (slice_get sent q)) all
      (finish_step.sends q (subst (λ k. q < k) (sym all) below))))
