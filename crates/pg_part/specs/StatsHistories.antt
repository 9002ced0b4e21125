-- What a partition comes to in a superstep, by what it or an old run had come to.
use Rattle.std.specs.Prelude.{◌≡◌, ℕ, ◌+◌, true, false, List, [], ◌∷◌, ◌++◌, map, ℤ, Option, Some}
use Rattle.std.specs.List.{list_all, slice_get}
use Rattle.pg_part.specs.PartRun.{PartRunState, diverged}
use Rattle.pg_global.specs.Registry.{Registered}
use Rattle.pg_graph.specs.Rows.{Rows}
use Rattle.pg_part.specs.declared.stats_history.StatsHistory.{StatsHistory}
use Rattle.pg_inbox.specs.LoggedBundle.{Slots}
use Rattle.pg_inbox.specs.Handed.{LoggedBundle}
use Rattle.pg_trace.specs.Handed.{contributions_of}
use Rattle.pg_stats.specs.VertexCounts.{HasCountDelta, states_among}
use Rattle.pg_stats.specs.Contributed.{contributes_alike}
use Rattle.pg_stats.specs.MessageCounts.{HasMessageCountDelta, message_counts_of, message_counts_recorded}
use Rattle.pg_stats.specs.GlobalStats.{aggregators_of}
use Rattle.pg_stats.specs.Stats.{vertex_counts_of, gathered_afresh}
use Rattle.pg_stats.specs.declared.stats.VertexCounts.{VertexCounts}
use Rattle.pg_stats.specs.declared.stats.PartitionStats.{PartitionStats}
use Rattle.pg_trace.specs.Trace.{Trace, records_of}

-- the stats as a run begins with these vertex counts
abbrev pub begun_with : Registered → VertexCounts → PartitionStats
begun_with registry vertex_counts =
    record {
      vertex_counts = vertex_counts;
      message_counts = record { sent = 0; dropped = 0 };
      gathered = gathered_afresh 0 (aggregators_of registry) [];
    }

-- a history with stats more of which this holds, and else the same
pub record HasMoreStats (IsNext : PartitionStats → Type 0) (before after : StatsHistory) : Type 0 where
  pub graph_is : after.graph ≡ before.graph
  pub member_changes_are : after.member_changes.items ≡ before.member_changes.items
  pub old_stats_are : after.old_stats.items ≡ before.old_stats.items
  pub next : PartitionStats
  pub stats_are : after.stats.items ≡ before.stats.items ++ next ∷ []
  pub is_next : IsNext next

module _ {V M : Type 0} where
  -- vertex counts as superstep `to` begins in one trace, by those as `from` begins in another, where the others
  -- have the same states
  abbrev pub AreCountsWithDelta : Trace V M → ℕ → Trace V M → ℕ → List ℕ → VertexCounts → VertexCounts → Type 0
  AreCountsWithDelta old from new to ids before after =
      HasCountDelta before (vertex_counts_of (states_among from ids old)) (vertex_counts_of (states_among to ids new))
      after

  -- vertex counts after superstep s, where all but these vertices had the same transition as in the old run, or none:
  -- by those before it, and by those of the old run before and after it. They are what they would be had only these
  -- changed, with the change the old run's besides
  pub record IsCountedWarm (old new : Trace V M) (s : ℕ) (ids : List ℕ)
      (before old_before old_after after : VertexCounts) : Type 0 where
    pub vertex_counts_delta : VertexCounts
    pub is_vertex_counts_delta : AreCountsWithDelta new s new (s + 1) ids before vertex_counts_delta
    pub old_vertex_counts_delta : VertexCounts
    pub was_vertex_counts_delta : AreCountsWithDelta old s old (s + 1) ids old_before old_vertex_counts_delta
    pub rest : HasCountDelta vertex_counts_delta old_vertex_counts_delta old_after after

  -- what the vertices contribute in superstep s comes to
  abbrev pub gathered_of : Registered → Trace V M → ℕ → List ℤ
  gathered_of registry trace s = gathered_afresh 0 (aggregators_of registry) (contributions_of (records_of s trace))

  -- the stats as a run begins against an old one, by those with which that began
  pub record HasBegunWarm (registry : Registered) (old : Trace V M) (part_run : PartRunState V M)
      (before after : PartitionStats) : Type 0 where
    pub vertex_counts : AreCountsWithDelta old 0 part_run.trace 0 (diverged part_run) before.vertex_counts
        after.vertex_counts
    pub rest : after ≡ begun_with registry after.vertex_counts

  -- the stats after superstep s, by those before it
  pub record IsStatsHistory (registry : Registered) (rows : Rows) (part_run : PartRunState V M) (s : ℕ)
      (bundles : List (LoggedBundle M))
      (before after : PartitionStats) : Type 0 where
    pub vertex_counts : AreCountsWithDelta part_run.trace s part_run.trace (s + 1) part_run.changed before.vertex_counts
        after.vertex_counts
    pub message_counts : after.message_counts ≡ message_counts_of part_run.missing rows (map (λ l. l.bundle) bundles)
    pub gathered : after.gathered ≡ gathered_of registry part_run.trace s

  -- the same by the records of the superstep, where it wasn't made anew
  pub record IsStatsHistoryByRecords (registry : Registered) (rows : Rows) (part_run : PartRunState V M) (s : ℕ)
      (before after : PartitionStats) : Type 0 where
    pub vertex_counts : AreCountsWithDelta part_run.trace s part_run.trace (s + 1) part_run.changed before.vertex_counts
        after.vertex_counts
    pub message_counts : after.message_counts
        ≡ message_counts_recorded part_run.missing rows (records_of s part_run.trace)
    pub gathered : after.gathered ≡ gathered_of registry part_run.trace s

  -- the same against the old run, by those that it had before and after it too
  pub record IsStatsHistoryWarm (registry : Registered) (rows : Rows) (member_changes : List ℕ) (old : Trace V M)
      (old_logs : Slots M)
      (part_run : PartRunState V M) (s : ℕ) (bundles : List (LoggedBundle M))
      (before old_before old_after after : PartitionStats) : Type 0 where
    pub vertex_counts : IsCountedWarm old part_run.trace s part_run.changed before.vertex_counts
        old_before.vertex_counts old_after.vertex_counts after.vertex_counts
    pub message_counts : HasMessageCountDelta part_run.missing rows member_changes old_logs s part_run.partition bundles
        old_after.message_counts after.message_counts
    pub alike : list_all (contributes_alike old part_run.trace s) part_run.changed ≡ true
        → after.gathered ≡ old_after.gathered
    pub otherwise : list_all (contributes_alike old part_run.trace s) part_run.changed ≡ false
        → after.gathered ≡ gathered_of registry part_run.trace s

  -- by the old run's too where the superstep was made against it, and else by those before it
  pub record IsNextStats (registry : Registered) (rows : Rows) (member_changes : List ℕ)
      (stats old_stats : List PartitionStats)
      (old_logs : Option (Slots M)) (part_run : PartRunState V M) (s : ℕ) (bundles : List (LoggedBundle M))
      (after : PartitionStats) : Type 0 where
    pub cold : part_run.was_warm ≡ false → (before : PartitionStats) → slice_get stats s ≡ Some before
        → IsStatsHistory registry rows part_run s bundles before after
    pub warm : part_run.was_warm ≡ true
        → (old : Trace V M) (logs : Slots M) (before old_before old_after : PartitionStats) → part_run.kept ≡ Some old
        → old_logs ≡ Some logs → slice_get stats s ≡ Some before → slice_get old_stats s ≡ Some old_before
        → slice_get old_stats (s + 1) ≡ Some old_after
        → IsStatsHistoryWarm registry rows member_changes old logs part_run s bundles before old_before old_after after

  -- with the stats after superstep s more
  abbrev pub HasNextStats : Registered → Option (Slots M) → PartRunState V M → ℕ → List (LoggedBundle M) → StatsHistory
      → StatsHistory → Type 0
  HasNextStats registry old_logs part_run s bundles before after =
      HasMoreStats (λ next. IsNextStats registry before.graph before.member_changes.items before.stats.items
      before.old_stats.items old_logs part_run s bundles next) before after

  -- the same by the records of the superstep
  abbrev pub HasResumedStats : Registered → PartRunState V M → ℕ → StatsHistory → StatsHistory → Type 0
  HasResumedStats registry part_run s before after =
      HasMoreStats (λ next. (earlier : PartitionStats) → slice_get before.stats.items s ≡ Some earlier
      → IsStatsHistoryByRecords registry before.graph part_run s earlier next) before after
