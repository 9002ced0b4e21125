-- The stats of all partitions together are those of the run: from them follow the totals, the gathered values, the counts of
-- messages and whether all is idle as the next superstep begins.
use Rattle.std.proofs.Common.{◌≡◌, ℕ, zero, suc, ◌+◌, ◌<◌, ℤ, Bool, ◌&&◌, ◌==◌, List, [], ◌∷◌, map, length, All, FitsSigned, w64, refl, ap, ap₂, sym}
use Rattle.std.proofs.Common.{◌∙◌, subst, arith, add-one, flat_map, sum_by, IsPermutation}
use Rattle.std.specs.List.{AllByRecursion, enumerate_from, list_all, range_with_len}
use Rattle.std.proofs.lemmas.List.Folds.{flat_map-map, list_all-map, sum_by-zero}
use Rattle.std.proofs.lemmas.List.Sorted.{IsPermutation-refl}
use Rattle.std.proofs.Math.Bool.{and-true}
use Rattle.pg_global.specs.Registry.{Registered}
use Rattle.pg_graph.specs.Rows.{Rows}
use Rattle.pg_model.specs.Job.{Aggregating, Job}
use Rattle.pg_model.specs.Run.{configuration, first, present_at, view_at, visible_at}
use Rattle.pg_model.specs.Share.{present_in_share}
use Rattle.pg_model.specs.Superstep.{at_place, capped, contributions, edges_of, gathered_from, ids, is_all_idle, next, totals_of}
use Rattle.pg_model.specs.declared.configuration.Configuration.{Configuration}
use Rattle.pg_model.proofs.LawsShares.{contributions-records_in, contributions_in_shares}
use Rattle.pg_stats.specs.GlobalStats.{AreStatsBetween, AreStatsOf, aggregators_of, gathered_by, is_idle, stats_of_all}
use Rattle.pg_stats.specs.Stats.{vertex_counts_at, sent_in, stats_at}
use Rattle.pg_stats.specs.declared.global_stats.GlobalStats.{GlobalStats}
use Rattle.pg_stats.specs.declared.stats.PartitionStats.{PartitionStats}
use Rattle.pg_stats.proofs.GatheredStats.{GathersParts, all_gather_parts, gathered_afresh-none, gathered_from-none, gathered_in_parts, initial_values_fit}
use Rattle.pg_stats.proofs.Idle.{both_zero, is_all_idle-first, is_all_idle-next}
use Rattle.pg_stats.proofs.Summing.{arrives, vertex_counts-unhalted, vertex_counts-edges, vertex_counts-vertices, dropped_in_shares, messages_in_shares, none_arrives}
use Rattle.pg_stats.proofs.Summing.{sent_in_shares, sum_by-map, sum_of_sums}

none_made : {X : Type 0} (ps : List ℕ) → flat_map {A = X} (λ p. []) ps ≡ []
none_made [] = refl
none_made (p ∷ ps) = none_made ps

capped_twice : (a b : ℕ) → capped (a + capped b) ≡ capped (a + b)
capped_twice a b = omega arith

module _ {V M : Type 0} (job : Job V M) (rows : Rows) (n : ℕ) where
  -- what all partitions have come to as superstep s begins, by rising partition
  abbrev pub all_stats_at : ℕ → List PartitionStats
  all_stats_at s = map (λ p. stats_at job rows n p s) (range_with_len 0 n)

  -- all of them together, where these values were visible in the superstep before
  abbrev pub global_stats_at : List ℤ → ℕ → GlobalStats
  global_stats_at visible s = stats_of_all job.aggregators visible (all_stats_at s)

  vertex_counts-stats_at : (p s : ℕ) → (stats_at job rows n p s).vertex_counts ≡ vertex_counts_at job rows n p s
  unfolding stats_at
  vertex_counts-stats_at p zero = refl
  vertex_counts-stats_at p (suc s) = refl

  sum_of_stats : (f : PartitionStats → ℕ) (s : ℕ) → sum_by f (all_stats_at s) ≡ sum_by (λ p. f (stats_at job rows n p s)) (range_with_len 0 n)
  sum_of_stats f s = sum_by-map f (λ p. stats_at job rows n p s) (range_with_len 0 n)

  module _ (some : 0 < n) where
    totals_are : (visible : List ℤ) (s : ℕ)
        → let stats = global_stats_at visible s in record { vertices = stats.vertices; edges = stats.edges } ≡ totals_of (configuration job rows s)
    unfolding stats_of_all
    totals_are visible s = λ i. record { vertices = vertices i; edges = capped (edges i) }
      where
        vertices : sum_by (λ (x : PartitionStats). x.vertex_counts.vertices) (all_stats_at s) ≡ length (configuration job rows s).with_inboxes
        vertices =
            sum_of_stats (λ x. x.vertex_counts.vertices) s
            ∙ (ap (λ (f : ℕ → ℕ). sum_by f (range_with_len 0 n)) (λ i p. (vertex_counts-stats_at p s i).vertices) ∙ vertex_counts-vertices job rows n some s)

        edges : sum_by (λ (x : PartitionStats). x.vertex_counts.edges) (all_stats_at s) ≡ edges_of (configuration job rows s).with_inboxes
        edges =
            sum_of_stats (λ x. x.vertex_counts.edges) s
            ∙ (ap (λ (f : ℕ → ℕ). sum_by f (range_with_len 0 n)) (λ i p. (vertex_counts-stats_at p s i).edges) ∙ vertex_counts-edges job rows n some s)

    idle_first : list_all is_idle (all_stats_at 0) ≡ is_all_idle (configuration job rows 0)
    unfolding stats_at
    idle_first =
        let ps : List ℕ = range_with_len 0 n in
        let unhalted : ℕ → ℕ = λ p. (vertex_counts_at job rows n p 0).unhalted in
        list_all-map is_idle (λ p. stats_at job rows n p 0) ps
        ∙ (ap (λ (f : ℕ → Bool). list_all f ps) (λ i p. and-true (unhalted p == 0) i)
        ∙ (sym (sum_by-zero unhalted ps)
        ∙ (ap (λ (k : ℕ). k == 0) (vertex_counts-unhalted job rows n some 0) ∙ sym (is_all_idle-first job rows))))

    idle_next : (s : ℕ) → list_all is_idle (all_stats_at (suc s)) ≡ is_all_idle (configuration job rows (suc s))
    unfolding stats_at
    idle_next s =
        let ps : List ℕ = range_with_len 0 n in
        let unhalted : ℕ → ℕ = λ p. (vertex_counts_at job rows n p (suc s)).unhalted in
        let arrive : ℕ × M → ℕ = arrives (ids (present_at job rows s)) job.missing in
        let arrived : ℕ → ℕ = λ p. sum_by arrive (sent_in job rows n p s) in
        list_all-map is_idle (λ p. stats_at job rows n p (suc s)) ps
        ∙ (ap (λ (f : ℕ → Bool). list_all f ps) (λ i p. (unhalted p == 0) && none_arrives job rows n some s p i)
        ∙ (ap (λ (f : ℕ → Bool). list_all f ps) (λ i p. both_zero (unhalted p) (arrived p) i)
        ∙ (sym (sum_by-zero (λ p. unhalted p + arrived p) ps)
        ∙ (ap (λ (k : ℕ). k == 0) (sum_of_sums unhalted arrived ps ∙ ap₂ ◌+◌ (vertex_counts-unhalted job rows n some (suc s)) (messages_in_shares job rows n some s arrive))
        ∙ sym (is_all_idle-next job rows s)))))

    -- ---- what is gathered

    module _ (registered : Registered) (are : job.aggregators ≡ aggregators_of registered) where
      all_parts : AllByRecursion GathersParts job.aggregators
      all_parts = subst (AllByRecursion GathersParts) (sym are) (all_gather_parts registered)

      gathered_next : (s : ℕ) → All (FitsSigned w64) (visible_at job rows s).values
          → gathered_from 0 job.aggregators (visible_at job rows s).values (gathered_by (all_stats_at (suc s))) ≡ (configuration job rows (suc s)).gathered
      unfolding stats_at configuration next
      gathered_next s fit =
          let ps : List ℕ = range_with_len 0 n in
          let visible : List ℤ = (visible_at job rows s).values in
          let whole : List (ℕ × ℤ) = contributions job.program (view_at job rows s) (present_at job rows s) in
          let part : ℕ → List (ℕ × ℤ) = λ p. contributions job.program (view_at job rows s) (present_in_share job rows n p s) in
          let moved : (k : ℕ) → IsPermutation (at_place k whole) (flat_map (λ p. at_place k (part p)) ps) =
          λ k. subst (λ (f : ℕ → List (ℕ × ℤ)). IsPermutation (at_place k whole) (flat_map (λ p. at_place k (f p)) ps))
          (λ i p. contributions-records_in job rows n p s i) (contributions_in_shares job rows n some s k) in
          ap (gathered_from 0 job.aggregators visible)
          (flat_map-map (λ (x : PartitionStats). enumerate_from 0 x.gathered) (λ p. stats_at job rows n p (suc s)) ps)
          ∙ gathered_in_parts job.aggregators visible whole part ps all_parts fit moved

      gathered_first : gathered_from 0 job.aggregators (map (λ a. a.initial) job.aggregators) (gathered_by (all_stats_at 0))
          ≡ (configuration job rows 0).gathered
      unfolding stats_at configuration first
      gathered_first =
          let ps : List ℕ = range_with_len 0 n in
          let initial : List ℤ = map (λ (a : Aggregating). a.initial) job.aggregators in
          let fit : All (FitsSigned w64) initial =
          subst (λ (l : List Aggregating). All (FitsSigned w64) (map (λ a. a.initial) l)) (sym are) (initial_values_fit registered) in
          let moved : (k : ℕ) → IsPermutation [] (flat_map (λ (p : ℕ). at_place k []) ps) =
          λ k. subst (IsPermutation {X = ℤ} []) (sym (none_made ps)) (IsPermutation-refl []) in
          ap (gathered_from 0 job.aggregators initial)
          (flat_map-map (λ (x : PartitionStats). enumerate_from 0 x.gathered) (λ p. stats_at job rows n p 0) ps
          ∙ ap (λ (l : List ℤ). flat_map (λ (p : ℕ). enumerate_from 0 l) ps) (sym (gathered_afresh-none 0 job.aggregators)))
          ∙ (gathered_in_parts job.aggregators initial [] (λ p. []) ps all_parts fit moved ∙ gathered_from-none 0 job.aggregators)

      -- ---- the theorems

      -- as a run begins, from the initial values on
      pub are_stats_first : AreStatsOf (configuration job rows 0) (global_stats_at (map (λ a. a.initial) job.aggregators) 0)
      unfolding stats_of_all
      are_stats_first = record {
        totals = totals_are (map (λ a. a.initial) job.aggregators) 0;
        idle = idle_first;
        gathered = gathered_first;
      }

      -- after a superstep, from what was visible in it
      pub are_stats_next : (s : ℕ) → All (FitsSigned w64) (visible_at job rows s).values
          → AreStatsBetween (configuration job rows s) (configuration job rows (suc s)) (global_stats_at (visible_at job rows s).values (suc s))
      unfolding stats_of_all stats_at configuration next
      are_stats_next s fit = record {
        ended = record {
          totals = totals_are (visible_at job rows s).values (suc s);
          idle = idle_next s;
          gathered = gathered_next s fit;
        };
        sent =
            capped_twice c.sent (sum_by (λ (x : PartitionStats). x.message_counts.sent) all)
            ∙ ap (λ (k : ℕ). capped (c.sent + k)) (sum_of_stats (λ x. x.message_counts.sent) (suc s) ∙ sent_in_shares job rows n some s);
        dropped =
            capped_twice c.dropped (sum_by (λ (x : PartitionStats). x.message_counts.dropped) all)
            ∙ ap (λ (k : ℕ). capped (c.dropped + k)) (sum_of_stats (λ x. x.message_counts.dropped) (suc s) ∙ dropped_in_shares job rows n some s);
      }
        where
          c : Configuration V M
          c = configuration job rows s

          all : List PartitionStats
          all = all_stats_at (suc s)

      -- the same, of superstep s + 1
      pub are_stats_after : (s : ℕ) → All (FitsSigned w64) (visible_at job rows s).values
          → AreStatsBetween (configuration job rows s) (configuration job rows (s + 1)) (global_stats_at (visible_at job rows s).values (s + 1))
      are_stats_after s fit =
          subst (λ (k : ℕ). AreStatsBetween (configuration job rows s) (configuration job rows k) (global_stats_at (visible_at job rows s).values k))
          (sym (add-one s)) (are_stats_next s fit)
