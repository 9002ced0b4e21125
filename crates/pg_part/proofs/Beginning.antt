-- The stats as a run begins.
use Rattle.std.proofs.Common.{◌≡◌, ℕ, ◌+◌, List, [], ◌∷◌, map, Some, option_map, refl, ap, sym, ◌∙◌, add-one}
use Rattle.std.specs.List.{range_with_len, slice_get}
use Rattle.std.specs.List.Sorted.{IsStrictlySortedBy}
use Rattle.std.specs.Ordering.{nat_cmp}
use Rattle.pg_part.specs.PartRun.{AreTouched}
use Rattle.pg_part_routing.specs.Starting.{first_states}
use Rattle.pg_part_routing.proofs.Beginning.{begun_holds}
use Rattle.pg_global.specs.Registry.{Registered}
use Rattle.pg_graph.specs.Rows.{HasRisingIds, Rows}
use Rattle.pg_model.specs.ByIds.{state_first}
use Rattle.pg_model.specs.Job.{Aggregating, Job}
use Rattle.pg_model.specs.Run.{run_length}
use Rattle.pg_model.specs.Share.{share}
use Rattle.pg_model.specs.Superstep.{has_id}
use Rattle.pg_model.proofs.LawsPresent.{state_at-first}
use Rattle.pg_part.specs.Part.{stats_to}
use Rattle.pg_part.specs.StatsHistories.{AreCountsWithDelta, begun_with}
use Rattle.pg_part.proofs.Shares.{vertex_counts_is, found_first, states_in}
use Rattle.pg_stats.specs.GlobalStats.{aggregators_of}
use Rattle.pg_stats.specs.Stats.{vertex_counts_of, gathered_afresh, stats_at}
use Rattle.pg_stats.specs.declared.stats.VertexCounts.{VertexCounts}
use Rattle.pg_stats.specs.declared.stats.PartitionStats.{PartitionStats}
use Rattle.pg_trace.specs.OfRun.{HoldsRun}
use Rattle.pg_trace.specs.Trace.{Trace}

-- nothing contributed comes to the initial values
afresh_none : (place : ℕ) (aggregators : List Aggregating) → gathered_afresh place aggregators [] ≡ map (λ a. a.initial) aggregators
afresh_none place [] = refl
afresh_none place (a ∷ rest) = ap (λ l. a.initial ∷ l) (afresh_none (place + 1) rest)

module _ {V M : Type 0} (job : Job V M) (n p : ℕ) (registry : Registered) (same : job.aggregators ≡ aggregators_of registry) where
  -- are those of the run
  pub begun_stats : (rows : Rows) (vertex_counts : VertexCounts) → vertex_counts ≡ vertex_counts_of (states_in job n p rows 0) → begun_with registry vertex_counts ∷ [] ≡ stats_to job rows n p 0
  unfolding stats_at
  begun_stats rows vertex_counts c =
      let gathered : gathered_afresh 0 (aggregators_of registry) [] ≡ map (λ (a : Aggregating). a.initial) job.aggregators =
      afresh_none 0 (aggregators_of registry) ∙ ap (map (λ (a : Aggregating). a.initial)) (sym same) in
      λ i. record { vertex_counts = c i; message_counts = record { sent = 0; dropped = 0 }; gathered = gathered i } ∷ []

-- the states with which the rows begin are those of the run
pub first_are : {V M : Type 0} (job : Job V M) (rows : Rows) (n p : ℕ) → HasRisingIds rows → first_states job.program rows n p ≡ states_in job n p rows 0
unfolding share
first_are job rows n p rise = (begun_holds job rows n p rise job.program refl).initial

module _ {V M : Type 0} (job : Job V M) (old rows : Rows) (n p : ℕ) (trace new_trace : Trace V M) (whole : HoldsRun job old n p (run_length job old) trace)
    (holds : HoldsRun job rows n p 0 new_trace) (touched diverged : List ℕ) (rise : IsStrictlySortedBy nat_cmp diverged)
    (are : (id : ℕ) → has_id diverged id ≡ has_id touched id) (untouched : AreTouched touched old rows) where
  -- the first stats of the old run
  old_first : (stats : List PartitionStats) → stats ≡ stats_to job old n p (run_length job old) → slice_get stats 0 ≡ Some (stats_at job old n p 0)
  old_first stats are =
      ap (λ (l : List PartitionStats). slice_get l 0) (are ∙ ap (λ (k : ℕ). map (stats_at job old n p) (range_with_len 0 k)) (add-one (run_length job old)))

  counted : (first : PartitionStats) → Some first ≡ Some (stats_at job old n p 0) → first.vertex_counts ≡ vertex_counts_of (states_in job n p old 0)
  unfolding stats_at
  counted first e = let same : first ≡ stats_at job old n p 0 = cc in ap (λ (x : PartitionStats). x.vertex_counts) same

  -- vertex counts with what has changed are those of the run
  pub counts_with_delta_is : (stats : List PartitionStats) → stats ≡ stats_to job old n p (run_length job old) → (first : PartitionStats)
      → slice_get stats 0 ≡ Some first
      → (vertex_counts : VertexCounts) → AreCountsWithDelta trace 0 new_trace 0 diverged first.vertex_counts vertex_counts → vertex_counts ≡ vertex_counts_of (states_in job n p rows 0)
  counts_with_delta_is stats are_old first at vertex_counts h =
      vertex_counts_is job n p old rows whole.rise holds.rise trace new_trace 0 0 diverged rise
      (found_first job n p old (run_length job old) trace whole diverged) (found_first job n p rows 0 new_trace holds diverged)
      (λ id belongs other. state_at-first job old id
      ∙ (ap (option_map (state_first job.program id)) (untouched id (sym (are id) ∙ other)) ∙ sym (state_at-first job rows id)))
      first.vertex_counts vertex_counts (counted first (sym at ∙ old_first stats are_old)) h
