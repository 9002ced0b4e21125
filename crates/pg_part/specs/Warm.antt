-- What a step against an old run makes of a partition, by what it looked at.
use Rattle.std.specs.Prelude.{◌≡◌, ℕ, ◌+◌, ◌<◌, ◌++◌, not, true, length, Bool, List, Option, Some}
use Rattle.std.specs.List.{flat_map, slice_get}
use Rattle.pg_inbox.specs.Alike.{DeliverAlike}
use Rattle.pg_inbox.specs.Handed.{LoggedBundle, MessageLists}
use Rattle.pg_inbox.specs.LoggedBundle.{Slots, slot_at}
use Rattle.pg_model.specs.Job.{Combining, Program}
use Rattle.pg_model.specs.declared.record.Record.{Record}
use Rattle.pg_model.specs.declared.view.View.{View}
use Rattle.pg_part_compute.specs.VertexPairs.{AreDirtyIds, IsStepDelta}
use Rattle.pg_part_compute.specs.Diverged.{AreEqSound, HaveSameIds, quiescent_among, live_among, without}
use Rattle.pg_part_compute.specs.Found.{is_same_view}
use Rattle.pg_part_routing.specs.Routes.{bundles_before}
use Rattle.pg_trace.specs.Trace.{reaching, Trace, with_replaced}
use Rattle.pg_part.specs.PartRun.{PartRunState}
use Rattle.pg_part_routing.specs.Sending.{IsRebuilt, items_to, pairs_of, sends_of}
use Rattle.pg_part_compute.specs.declared.execution.StepDelta.{StepDelta}

module _ {V M : Type 0} (value_eq : V → V → Bool) (part_run : PartRunState V M) (old : Trace V M) (dirty_ids : List ℕ)
    (changes : List (ℕ × Option (Record V M))) where
  -- the part run's trace with the changed records
  abbrev pub trace_after : Trace V M
  trace_after = with_replaced part_run.place changes (reaching part_run.place part_run.trace)

  -- the part run one superstep further: the states of the vertices that were looked at are compared; these are
  -- quiescent
  abbrev pub advanced : List ℕ → PartRunState V M
  advanced quiescent = record part_run {
    place = part_run.place + 1;
    trace = trace_after;
    kept = Some old;
    live = live_among value_eq old trace_after (part_run.place + 1) dirty_ids;
    quiescent = quiescent;
    changed = dirty_ids;
    was_warm = true;
  }

  -- those that do are, in whatever order, those that did and weren't looked at, and those that are found to
  abbrev pub AreTheQuiescent : List ℕ → Type 0
  AreTheQuiescent quiescent =
      HaveSameIds quiescent
      (without part_run.quiescent dirty_ids ++ quiescent_among value_eq old trace_after (part_run.place + 1) dirty_ids)

  -- and where states are found the same, they are
  abbrev pub AreCompared : Type 0
  AreCompared = AreEqSound value_eq old trace_after (part_run.place + 1) dirty_ids

-- what the old run sent is rebuilt by changes of records
pub record IsSentWarm {V M : Type 0} (combining : Option (Combining M)) (part_run : PartRunState V M) (old : Trace V M)
    (old_logs : Slots M)
    (changes : List (ℕ × Option (Record V M))) (sent : List (LoggedBundle M)) : Type 0 where
  pub to_each : length sent ≡ part_run.partitions
  pub sends : (q : ℕ) → q < part_run.partitions → IsRebuilt combining
      (items_to part_run.partitions q (flat_map (pairs_of old part_run.place) changes))
      (items_to part_run.partitions q (flat_map sends_of changes))
      (slot_at old_logs part_run.place part_run.partition q) (slice_get sent q)

module _ {V M : Type 0} (value_eq : V → V → Bool) (message_eq : M → M → Bool) (combining : Option (Combining M))
    (part_run : PartRunState V M)
    (old : Trace V M) (old_logs : Slots M) where
  -- the bundles to the partition in the old run
  abbrev pub old_bundles : List (MessageLists M)
  old_bundles = bundles_before old_logs part_run.partitions part_run.partition part_run.place

  -- all that had to be looked at was, and executed where the old run read something else
  pub record IsStepDeltaWarm (program : Program V M) (logs : Slots M) (old_view view : View)
      (bundles : List (MessageLists M)) (before : ℕ)
      (step_delta : StepDelta V M) : Type 0 where
    pub ids : List ℕ
    pub looked : AreDirtyIds combining bundles part_run.partitions part_run.partition part_run.place part_run.trace
        part_run.live part_run.quiescent logs old_logs
        (is_same_view old_view view) ids
    pub is : IsStepDelta value_eq message_eq program part_run.missing combining view part_run.partitions
        part_run.partition part_run.place part_run.trace bundles
        (Some (old, old_bundles)) ids (not (is_same_view old_view view)) (is_same_view old_view view) before step_delta
    pub alike : (id : ℕ) → DeliverAlike combining id old_bundles bundles

  -- the part run with the changed records, and what it sends
  pub record IsFinishedStep (dirty_ids : List ℕ) (changes : List (ℕ × Option (Record V M))) (after : PartRunState V M)
      (sent : List (LoggedBundle M)) : Type 0 where
    pub quiescent : List ℕ
    pub quiescent_are : AreTheQuiescent value_eq part_run old dirty_ids changes quiescent
    pub part_is : after ≡ advanced value_eq part_run old dirty_ids changes quiescent
    pub eq_is_sound : AreCompared value_eq part_run old dirty_ids changes
    pub sent_is : IsSentWarm combining part_run old old_logs changes sent
