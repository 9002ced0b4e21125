-- What a step from scratch makes of a part run, by what it looked at.
use Rattle.std.specs.Prelude.{◌≡◌, ℕ, ◌+◌, ◌<◌, ◌++◌, false, length, List, Option, None, Some}
use Rattle.std.specs.List.{flat_map, slice_get}
use Rattle.pg_inbox.specs.Handed.{LoggedBundle}
use Rattle.pg_model.specs.Job.{Combining}
use Rattle.pg_model.specs.declared.record.Record.{Record}
use Rattle.pg_part.specs.PartRun.{PartRunState}
use Rattle.pg_part_routing.specs.Sending.{IsFresh, items_to, sends_of}
use Rattle.pg_trace.specs.Trace.{Trace, reaching, with_replaced}

-- the ids that may differ after a step past the end of the old run, if any: those that did before, and the changed ones
abbrev pub diverged_past_end : {V M : Type 0} → Option (Trace V M) → List ℕ → List ℕ → List ℕ
diverged_past_end None ids changed = ids
diverged_past_end (Some old) ids changed = ids ++ changed

module _ {V M : Type 0} (part_run : PartRunState V M) (dirty_ids : List ℕ)
    (changes : List (ℕ × Option (Record V M))) where
  -- the part run one superstep further, with these changes of records
  abbrev pub advanced_past_end : PartRunState V M
  advanced_past_end = record part_run {
    place = part_run.place + 1;
    trace = with_replaced part_run.place changes (reaching part_run.place part_run.trace);
    live = diverged_past_end part_run.kept part_run.live dirty_ids;
    changed = dirty_ids;
    was_warm = false;
  }

  -- it is that, and sends what the changes send
  pub record IsFinishedStepCold (combining : Option (Combining M)) (after : PartRunState V M)
      (sent : List (LoggedBundle M)) : Type 0 where
    pub advanced : after ≡ advanced_past_end
    pub to_each : length sent ≡ part_run.partitions
    pub sends : (q : ℕ) → q < part_run.partitions
        → IsFresh combining (items_to part_run.partitions q (flat_map sends_of changes)) (slice_get sent q)
