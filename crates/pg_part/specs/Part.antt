-- One partition of a run at a superstep, with what it has come to.
use Rattle.std.specs.Prelude.{◌≡◌, ℕ, ◌+◌, Bool, List, map, Option, None, Some}
use Rattle.std.specs.List.{range_with_len}
use Rattle.pg_part.specs.PartRun.{HasStepped, PartRunState, Holds, IsWhole}
use Rattle.pg_graph.specs.Rows.{Rows}
use Rattle.pg_inbox.specs.Handed.{LoggedBundle}
use Rattle.pg_model.specs.Job.{Job}
use Rattle.pg_model.specs.Run.{run_length}
use Rattle.pg_stats.specs.MessageCounts.{AreMemberChanges}
use Rattle.pg_stats.specs.Stats.{stats_at}
use Rattle.pg_stats.specs.declared.stats.PartitionStats.{PartitionStats}
use Rattle.pg_trace.specs.Trace.{Trace}

-- a partition at a superstep: its part run, the graph, and what it has come to as each superstep so far began; where it
-- is warm also the ids that are a vertex of just one of this graph and the old run's, and what it came to in the old
-- run
pub record PartState (V M : Type 0) : Type 0 where
  pub part_run : PartRunState V M
  pub graph : Rows
  pub member_changes : List ℕ
  pub stats : List PartitionStats
  pub old_stats : List PartitionStats

-- what a partition leaves of a whole run
pub record RetainedPartOf (V M : Type 0) : Type 0 where
  pub trace : Trace V M
  pub stats : List PartitionStats

module _ {V M : Type 0} (job : Job V M) where
  -- what partition p of n has come to as each superstep up to r begins
  abbrev pub stats_to : Rows → ℕ → ℕ → ℕ → List PartitionStats
  stats_to rows n p r = map (stats_at job rows n p) (range_with_len 0 (r + 1))

  -- this is what partition p of n leaves of the run on these rows
  pub record IsRetained (rows : Rows) (n p : ℕ) (retained : RetainedPartOf V M) : Type 0 where
    pub whole : IsWhole job rows n p retained.trace
    pub stats_are : retained.stats ≡ stats_to rows n p (run_length job rows)

  -- a warm one has what it retained of the run on the old rows
  abbrev pub HasOldStats : Option Rows → Rows → ℕ → ℕ → PartState V M → Type 0
  HasOldStats None rows n p part = Unit {0}
  HasOldStats (Some old) rows n p part =
      (part.old_stats ≡ stats_to old n p (run_length job old)) × AreMemberChanges part.member_changes old rows

  -- it has the stats of the run on these rows as superstep r begins, against the run on the kept rows, if any
  pub record HasStats (kept : Option Rows) (rows : Rows) (n p r : ℕ) (part : PartState V M) : Type 0 where
    pub graph_is : part.graph ≡ rows
    pub stats_are : part.stats ≡ stats_to rows n p r
    pub warm : HasOldStats kept rows n p part

  -- it holds its share of the run, and what that has come to
  pub record HoldsShare (kept : Option Rows) (rows : Rows) (n p r : ℕ) (part : PartState V M) : Type 0 where
    pub part_run : Holds job kept rows n p r part.part_run
    pub stats : HasStats kept rows n p r part

  -- a step took it to the next superstep
  pub record HasMadeStep (value_eq : V → V → Bool) (message_eq : M → M → Bool) (kept : Option Rows) (rows : Rows)
      (n p r : ℕ)
      (part : PartState V M) (sent : List (LoggedBundle M)) (calls calls_after : ℕ) : Type 0 where
    pub part_run : HasStepped job value_eq message_eq kept rows n p r part.part_run sent calls calls_after
    pub stats : HasStats kept rows n p (r + 1) part
