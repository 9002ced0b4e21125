-- The stats of a run as a superstep begins: by those before it, and by those of an old run.
use Rattle.std.proofs.Common.{◌≡◌, ℕ, zero, suc, ◌+◌, ◌<◌, ◌==◌, ◌&&◌, ◌||◌, true≢false, Bool, true, false, List, [], ◌∷◌}
use Rattle.std.proofs.Common.{map, length, Option, None, Some, option_map, refl, ap, ap₂, sym, ◌∙◌, subst, arith, add-one}
use Rattle.std.specs.List.{AllByRecursion, list_all, range_with_len, slice_get}
use Rattle.std.proofs.lemmas.Bool.{eqb-true}
use Rattle.std.proofs.lemmas.List.{length-map}
use Rattle.std.proofs.lemmas.Option.{slice_get-map}
use Rattle.pg_part.specs.PartRun.{AreTheOnly, AreTheOnlyWarm, PartRunState, IsSentTo}
use Rattle.pg_part_routing.specs.Routes.{bundle_in, bundle_sent}
use Rattle.pg_part_compute.proofs.Coverage.{records_held}
use Rattle.pg_part_compute.proofs.Recording.{records_rise}
use Rattle.pg_global.specs.Registry.{Registered}
use Rattle.pg_graph.specs.Rows.{Rows}
use Rattle.pg_inbox.specs.Handed.{LoggedBundle, MessageLists, message_lists_in}
use Rattle.pg_inbox.specs.LoggedBundle.{Slots, slot_at}
use Rattle.pg_inbox.proofs.Handed.{rises-bundle_of}
use Rattle.pg_map.specs.Entries.{value_at}
use Rattle.pg_model.specs.ByIds.{state_at}
use Rattle.pg_model.specs.Job.{Aggregating, Job}
use Rattle.pg_model.specs.Run.{run_length}
use Rattle.pg_model.specs.Order.{Sending}
use Rattle.pg_model.specs.Share.{belongs, records_in, sent_to}
use Rattle.pg_model.specs.Superstep.{has_id}
use Rattle.pg_model.specs.declared.record.Record.{Record}
use Rattle.pg_part.specs.StatsHistories.{AreCountsWithDelta, IsStatsHistory, IsStatsHistoryWarm, IsStatsHistoryByRecords}
use Rattle.pg_part.proofs.Shares.{all_among, vertex_counts_warm_is, vertex_counts_is, found, states_in}
use Rattle.pg_trace.specs.Handed.{contributions_of}
use Rattle.pg_stats.specs.Contributed.{contributed_by, contributes_alike}
use Rattle.pg_stats.specs.MessageCounts.{AreMemberChanges, HasMessageCountDelta, IsLoggedChange, message_counts_of, message_counts_recorded}
use Rattle.pg_stats.proofs.LawsOfRun.{bundle_to, contribute_the_same, gathered_of_run, same_contributions, message_counts_of_run, message_counts_recorded_of_run}
use Rattle.pg_stats.proofs.LawsMessageCounts.{message_counts_is}
use Rattle.pg_stats.specs.GlobalStats.{aggregators_of}
use Rattle.pg_stats.specs.Stats.{vertex_counts_at, vertex_counts_of, gathered_afresh, gathered_in, stats_at, message_counts_in}
use Rattle.pg_stats.specs.declared.stats.VertexCounts.{VertexCounts}
use Rattle.pg_stats.specs.declared.stats.PartitionStats.{PartitionStats}
use Rattle.pg_trace.specs.OfRun.{HoldsRun}
use Rattle.pg_trace.specs.Trace.{Trace, record_at, records_of}

-- a list that has the values of a function, one by one
pub listed : {X : Type 0} (n : ℕ) (f : ℕ → X) (xs : List X) → length xs ≡ n → ((q : ℕ) → q < n → slice_get xs q ≡ Some (f q)) → xs ≡ map f (range_with_len 0 n)
listed {X = X} n f xs many at = from n 0 f xs many (λ q below. at q below ∙ ap (λ (k : ℕ). Some (f k)) (let e : q ≡ 0 + q = omega arith in e))
  where
    from : (n a : ℕ) (f : ℕ → X) (xs : List X) → length xs ≡ n → ((q : ℕ) → q < n → slice_get xs q ≡ Some (f (a + q))) → xs ≡ map f (range_with_len a n)
    from zero a f [] many at = refl
    from zero a f (x ∷ xs) many at = absurd (omega (arith, many))
    from (suc n) a f [] many at = absurd (omega (arith, many))
    from (suc n) a f (x ∷ xs) many at =
        ap₂ ◌∷◌ (first x (a + 0) a (at 0 (let e : 0 < suc n = omega arith in e)) (let e : a + 0 ≡ a = omega arith in e))
        (from n (a + 1) f xs (omega (arith, many))
        (λ q below. at (suc q) (omega (arith, below)) ∙ ap (λ (k : ℕ). Some (f k)) (let e : a + suc q ≡ a + 1 + q = omega arith in e)))
      where
        first : (x : X) (k a : ℕ) → Some x ≡ Some (f k) → k ≡ a → x ≡ f a
        first x k a e same = let y : x ≡ f k = cc in y ∙ ap f same

-- a test that all of some ids pass
passes : (test : ℕ → Bool) (ids : List ℕ) → list_all test ids ≡ true → (id : ℕ) → has_id ids id ≡ true → test id ≡ true
passes test [] all id e = absurd (true≢false (sym e))
passes test (i ∷ ids) all id e = by (i == id) refl (test i) refl (passes test ids) all e
  where
    by : (t : Bool) → (i == id) ≡ t → (u : Bool) → test i ≡ u → (list_all test ids ≡ true → (id : ℕ) → has_id ids id ≡ true → test id ≡ true)
        → (u && list_all test ids) ≡ true → (t || has_id ids id) ≡ true → test id ≡ true
    by true same true h later all e = ap test (sym (eqb-true i id same)) ∙ h
    by t same false h later all e = absurd (true≢false (sym all))
    by false same true h later all e = later all id e

bundle_is : {V M : Type 0} (job : Job V M) (kept : Option Rows) (rows : Rows) (n p q s : ℕ) (slot : Option (LoggedBundle M)) → IsSentTo job kept rows n p q s slot
    → option_map (λ l. l.bundle) slot ≡ Some (bundle_sent job rows n p q s)
bundle_is job kept rows n p q s None h = absurd h
bundle_is job kept rows n p q s (Some logged) h = ap Some h.0

module _ {V M : Type 0} (job : Job V M) (rows : Rows) (n p : ℕ) where
  vertex_counts_of_stats : (s : ℕ) → (stats_at job rows n p s).vertex_counts ≡ vertex_counts_of (states_in job n p rows s)
  unfolding stats_at
  vertex_counts_of_stats zero = refl
  vertex_counts_of_stats (suc s) = refl

  next : (s : ℕ) (stats : PartitionStats) → stats.vertex_counts ≡ vertex_counts_at job rows n p (suc s) → stats.message_counts ≡ message_counts_in job rows n p s
      → stats.gathered ≡ gathered_in job rows n p s → stats ≡ stats_at job rows n p (suc s)
  unfolding stats_at
  next s stats c t g = λ i. record { vertex_counts = c i; message_counts = t i; gathered = g i }

  message_counts_next : (s : ℕ) → (stats_at job rows n p (suc s)).message_counts ≡ message_counts_in job rows n p s
  unfolding stats_at
  message_counts_next s = refl

  gathered_next : (s : ℕ) → (stats_at job rows n p (suc s)).gathered ≡ gathered_in job rows n p s
  unfolding stats_at
  gathered_next s = refl

  -- the stats after a superstep have what was sent and what was contributed in it
  message_counts_after : (s : ℕ) → (stats_at job rows n p (s + 1)).message_counts ≡ message_counts_in job rows n p s
  message_counts_after s = ap (λ (k : ℕ). (stats_at job rows n p k).message_counts) (add-one s) ∙ message_counts_next s

  gathered_after : (s : ℕ) → (stats_at job rows n p (s + 1)).gathered ≡ gathered_in job rows n p s
  gathered_after s = ap (λ (k : ℕ). (stats_at job rows n p k).gathered) (add-one s) ∙ gathered_next s

  -- stats of these three
  pub stats_are : (s : ℕ) (stats : PartitionStats) → stats.vertex_counts ≡ vertex_counts_of (states_in job n p rows (s + 1)) → stats.message_counts ≡ message_counts_in job rows n p s
      → stats.gathered ≡ gathered_in job rows n p s → stats ≡ stats_at job rows n p (s + 1)
  stats_are s stats c t g =
      next s stats (c ∙ ap (λ (k : ℕ). vertex_counts_of (states_in job n p rows k)) (add-one s)) t g ∙ ap (stats_at job rows n p) (sym (add-one s))

  -- what is gathered, by the trace
  gathered_is : (registry : Registered) → job.aggregators ≡ aggregators_of registry → (s : ℕ) (trace : Trace V M) → HoldsRun job rows n p (s + 1) trace
      → gathered_afresh 0 (aggregators_of registry) (contributions_of (records_of s trace)) ≡ gathered_in job rows n p s
  gathered_is registry same s trace holds =
      ap₂ (λ (aggregators : List Aggregating) (rs : List (ℕ × Record V M)). gathered_afresh 0 aggregators (contributions_of rs)) (sym same)
      (records_held job rows n p trace s (s + 1) holds (omega arith))
      ∙ sym (gathered_of_run job rows n p s)

module _ {V M : Type 0} (job : Job V M) (rows : Rows) (n p s : ℕ) (part_run : PartRunState V M) (holds : HoldsRun job rows n p (s + 1) part_run.trace) where
  -- the vertex counts, by those before it
  vertex_counts_after : AreTheOnly job rows n p s part_run.changed → (before : PartitionStats) (after : VertexCounts) → before ≡ stats_at job rows n p s
      → AreCountsWithDelta part_run.trace s part_run.trace (s + 1) part_run.changed before.vertex_counts after → after ≡ vertex_counts_of (states_in job n p rows (s + 1))
  vertex_counts_after only before after b h =
      let mine : AllByRecursion (λ id. belongs n p id ≡ true) part_run.changed = all_among (λ id. belongs n p id ≡ true) part_run.changed only.mine in
      vertex_counts_is job n p rows rows holds.rise holds.rise part_run.trace part_run.trace s (s + 1) part_run.changed only.rise
      (found job n p rows (s + 1) part_run.trace holds s (omega arith) part_run.changed mine)
      (found job n p rows (s + 1) part_run.trace holds (s + 1) (omega arith) part_run.changed mine)
      (λ id belongs others. sym (ap (λ (k : ℕ). state_at job rows k id) (add-one s) ∙ only.states id belongs others))
      before.vertex_counts after (ap (λ (x : PartitionStats). x.vertex_counts) b ∙ vertex_counts_of_stats job rows n p s) h

  -- the stats, by those before it and by the records
  pub recorded_is : (registry : Registered) → job.aggregators ≡ aggregators_of registry → part_run.missing ≡ job.missing
      → AreTheOnly job rows n p s part_run.changed → (before after : PartitionStats) → before ≡ stats_at job rows n p s
      → IsStatsHistoryByRecords registry rows part_run s before after → after ≡ stats_at job rows n p (s + 1)
  recorded_is registry same missing only before after b h =
      stats_are job rows n p s after
      (vertex_counts_after only before after.vertex_counts b h.vertex_counts)
      (h.message_counts ∙ (ap₂ (λ m (rs : List (ℕ × Record V M)). message_counts_recorded m rows rs) missing
      (records_held job rows n p part_run.trace s (s + 1) holds (omega arith))
      ∙ sym (message_counts_recorded_of_run job rows n p s)))
      (h.gathered ∙ gathered_is job rows n p registry same s part_run.trace holds)

module _ {V M : Type 0} (job : Job V M) (rows : Rows) (n p : ℕ) (some : 0 < n) (registry : Registered) (same : job.aggregators ≡ aggregators_of registry)
    (s : ℕ) (part_run : PartRunState V M) (missing : part_run.missing ≡ job.missing) (holds : HoldsRun job rows n p (s + 1) part_run.trace)
    (kept : Option Rows) (sent : List (LoggedBundle M)) (to_each : length sent ≡ n)
    (sends : (q : ℕ) → q < n → IsSentTo job kept rows n p q s (slice_get sent q)) where
  bundles_are : map (λ l. l.bundle) sent ≡ map (bundle_to job rows n p some s) (range_with_len 0 n)
  bundles_are =
      listed n (bundle_to job rows n p some s) (map (λ (l : LoggedBundle M). l.bundle) sent) (length-map sent (λ (l : LoggedBundle M). l.bundle) ∙ to_each)
      (λ q below. slice_get-map (λ (l : LoggedBundle M). l.bundle) sent q ∙ bundle_is job kept rows n p q s (slice_get sent q) (sends q below))

  -- by those before it
  pub after_is : AreTheOnly job rows n p s part_run.changed → (before after : PartitionStats) → before ≡ stats_at job rows n p s
      → IsStatsHistory registry rows part_run s sent before after → after ≡ stats_at job rows n p (s + 1)
  after_is only before after b h =
      stats_are job rows n p s after
      (vertex_counts_after job rows n p s part_run holds only before after.vertex_counts b h.vertex_counts)
      (h.message_counts ∙ (ap₂ (λ m (bs : List (MessageLists M)). message_counts_of m rows bs) missing bundles_are ∙ sym (message_counts_of_run job rows n p some s holds.rise)))
      (h.gathered ∙ gathered_is job rows n p registry same s part_run.trace holds)

  module _ (old : Rows) (member_changes : List ℕ) (are_member_changes : AreMemberChanges member_changes old rows) (is_old : kept ≡ Some old) (of : part_run.partition ≡ p)
      (trace : Trace V M) (whole : HoldsRun job old n p (run_length job old) trace)
      (old_logs : Slots M) (logged : (q : ℕ) → q < n → bundle_in (slot_at old_logs s p q) ≡ Some (bundle_sent job old n p q s)) where
    stated : s < run_length job old → (q : ℕ) → q < length sent
        → IsLoggedChange (bundle_to job old n p some s q) (bundle_to job rows n p some s q) (slot_at old_logs s p q) (slice_get sent q)
    stated there q below =
        by (slice_get sent q)
        (subst (λ (k : Option Rows). IsSentTo job k rows n p q s (slice_get sent q)) is_old (sends q (subst (λ m. q < m) to_each below)))
      where
        by : (slot : Option (LoggedBundle M)) → IsSentTo job (Some old) rows n p q s slot
            → IsLoggedChange (bundle_to job old n p some s q) (bundle_to job rows n p some s q) (slot_at old_logs s p q) slot
        by None h = absurd h
        by (Some l) h = (ap message_lists_in (logged q (subst (λ m. q < m) to_each below)), (h.0, h.1 there))

    -- the old run has the superstep: by those that it had before and after it too
    pub warm_is : AreTheOnlyWarm job old rows n p s part_run.changed → (before old_before old_after after : PartitionStats) → before ≡ stats_at job rows n p s
        → old_before ≡ stats_at job old n p s → old_after ≡ stats_at job old n p (s + 1)
        → IsStatsHistoryWarm registry rows member_changes trace old_logs part_run s sent before old_before old_after after → after ≡ stats_at job rows n p (s + 1)
    warm_is only before old_before old_after after b ob oa h =
        let mine : AllByRecursion (λ id. belongs n p id ≡ true) part_run.changed = all_among (λ id. belongs n p id ≡ true) part_run.changed only.mine in
        let there : s < run_length job old = only.there in
        stats_are job rows n p s after
        (vertex_counts_warm_is job n p old rows whole.rise holds.rise trace part_run.trace s part_run.changed only.rise
        (found job n p old (run_length job old) trace whole s (omega (arith, there)) part_run.changed mine)
        (found job n p old (run_length job old) trace whole (s + 1) (omega (arith, there)) part_run.changed mine)
        (found job n p rows (s + 1) part_run.trace holds s (omega arith) part_run.changed mine)
        (found job n p rows (s + 1) part_run.trace holds (s + 1) (omega arith) part_run.changed mine)
        only.states before.vertex_counts old_before.vertex_counts old_after.vertex_counts after.vertex_counts
        (ap (λ (x : PartitionStats). x.vertex_counts) b ∙ vertex_counts_of_stats job rows n p s)
        (ap (λ (x : PartitionStats). x.vertex_counts) ob ∙ vertex_counts_of_stats job old n p s)
        (ap (λ (x : PartitionStats). x.vertex_counts) oa ∙ vertex_counts_of_stats job old n p (s + 1)) h.vertex_counts)
        (message_counts ∙ sym (message_counts_of_run job rows n p some s holds.rise))
        (by (list_all (contributes_alike trace part_run.trace s) part_run.changed) refl)
      where
        old_message_counts : old_after.message_counts ≡ message_counts_in job old n p s
        old_message_counts = ap (λ (x : PartitionStats). x.message_counts) oa ∙ message_counts_after job old n p s

        old_gathered : old_after.gathered ≡ gathered_in job old n p s
        old_gathered = ap (λ (x : PartitionStats). x.gathered) oa ∙ gathered_after job old n p s

        message_counts : after.message_counts ≡ message_counts_of job.missing rows (map (bundle_to job rows n p some s) (range_with_len 0 n))
        message_counts =
            subst (λ (m : ℕ). after.message_counts ≡ message_counts_of job.missing rows (map (bundle_to job rows n p some s) (range_with_len 0 m))) to_each
            (message_counts_is (bundle_to job old n p some s) (bundle_to job rows n p some s) old_logs s p sent
            (λ q. rises-bundle_of job.combining (map (λ (t : Sending M). (t.sender, t.target, t.message)) (sent_to job old n p q s)))
            (λ q. rises-bundle_of job.combining (map (λ (t : Sending M). (t.sender, t.target, t.message)) (sent_to job rows n p q s))) (stated only.there)
            job.missing old rows member_changes are_member_changes old_after.message_counts after.message_counts
            (old_message_counts ∙ (message_counts_of_run job old n p some s whole.rise
            ∙ ap (λ (m : ℕ). message_counts_of job.missing old (map (bundle_to job old n p some s) (range_with_len 0 m))) (sym to_each)))
            (subst (λ m. HasMessageCountDelta m rows member_changes old_logs s p sent old_after.message_counts after.message_counts) missing
            (subst (λ k. HasMessageCountDelta part_run.missing rows member_changes old_logs s k sent old_after.message_counts after.message_counts) of h.message_counts)))

        old_records : records_of s trace ≡ records_in job old n p s
        old_records = records_held job old n p trace s (run_length job old) whole only.there

        new_records : records_of s part_run.trace ≡ records_in job rows n p s
        new_records = records_held job rows n p part_run.trace s (s + 1) holds (omega arith)

        alike_at : list_all (contributes_alike trace part_run.trace s) part_run.changed ≡ true → (id : ℕ)
            → contributed_by (value_at id (records_in job old n p s)) ≡ contributed_by (value_at id (records_in job rows n p s))
        alike_at all id = by (has_id part_run.changed id) refl
          where
            by : (t : Bool) → has_id part_run.changed id ≡ t
                → contributed_by (value_at id (records_in job old n p s)) ≡ contributed_by (value_at id (records_in job rows n p s))
            by true e =
                ap (λ (rs : List (ℕ × Record V M)). contributed_by (value_at id rs)) (sym old_records)
                ∙ (same_contributions (contributed_by (record_at id s trace)) (contributed_by (record_at id s part_run.trace))
                (passes (contributes_alike trace part_run.trace s) part_run.changed all id e)
                ∙ ap (λ (rs : List (ℕ × Record V M)). contributed_by (value_at id rs)) new_records)
            by false e = ap contributed_by (only.records id e)

        by : (t : Bool) → list_all (contributes_alike trace part_run.trace s) part_run.changed ≡ t → after.gathered ≡ gathered_in job rows n p s
        by true e =
            h.alike e ∙ (old_gathered ∙ (gathered_of_run job old n p s
            ∙ (ap (gathered_afresh 0 job.aggregators)
            (contribute_the_same (records_in job old n p s) (records_in job rows n p s) (records_rise job old n p s whole.rise)
            (records_rise job rows n p s holds.rise) (alike_at e))
            ∙ sym (gathered_of_run job rows n p s))))
        by false e = h.otherwise e ∙ gathered_is job rows n p registry same s part_run.trace holds
