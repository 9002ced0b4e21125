-- What a partition has come to after a step.
use Rattle.std.proofs.Common.{◌≡◌, ℕ, zero, suc, ◌+◌, ◌<◌, ◌≤◌, Bool, true, false, List, [], ◌∷◌, ◌++◌, map, length}
use Rattle.std.proofs.Common.{Option, None, Some, Ok, Result, IfOk, refl, ap, ap₂, sym, ◌∙◌, subst, subst₂, arith, get_or}
use Rattle.std.specs.List.{range_with_len, slice_get}
use Rattle.std.proofs.lemmas.List.FromFn.{map-range_with_len_more}
use Rattle.std.proofs.lemmas.Option.{get_or_from_slice_get}
use Rattle.pg_part.specs.PartRun.{AreAllChanged, AreTheOnlyWarm, PartRunState, Holds, IsSentTo}
use Rattle.pg_part.specs.StepInput.{IsOldStepInput}
use Rattle.pg_global.specs.Registry.{Registered}
use Rattle.pg_graph.specs.Rows.{Rows}
use Rattle.pg_inbox.specs.LoggedBundle.{Slots}
use Rattle.pg_inbox.specs.Handed.{LoggedBundle}
use Rattle.pg_model.specs.Job.{Job}
use Rattle.pg_model.specs.Run.{run_length}
use Rattle.pg_model.specs.declared.view.Visible.{Visible}
use Rattle.pg_part.specs.Part.{HasOldStats, HasStats, PartState, stats_to}
use Rattle.pg_part.specs.StatsHistories.{IsNextStats, IsStatsHistory, IsStatsHistoryWarm}
use Rattle.pg_part.proofs.StatsHistories.{after_is, warm_is}
use Rattle.pg_stats.specs.MessageCounts.{AreMemberChanges}
use Rattle.pg_stats.specs.GlobalStats.{aggregators_of}
use Rattle.pg_stats.specs.Stats.{stats_at}
use Rattle.pg_stats.specs.declared.stats.PartitionStats.{PartitionStats}
use Rattle.pg_trace.specs.Trace.{Trace}

-- what holds of a result that is Ok holds of what it has
pub ok_of : {X E : Type 0} (Q : X → Type 0) (r : Result X E) (x : X) → r ≡ Ok x → IfOk r Q → Q x
ok_of Q r x e h = subst (λ s. IfOk s Q) e h

-- a list that a function makes, at one of its places
slice_get-range : {X : Type 0} (made : ℕ → X) (a n k : ℕ) → k < n → slice_get (map made (range_with_len a n)) k ≡ Some (made (a + k))
slice_get-range made a zero k within = absurd (omega (arith, within))
slice_get-range made a (suc n) zero within = ap (λ (i : ℕ). Some (made i)) (let e : a ≡ a + 0 = omega arith in e)
slice_get-range made a (suc n) (suc k) within =
    slice_get-range made (a + 1) n k (omega (arith, within)) ∙ ap (λ (i : ℕ). Some (made i)) (let e : a + 1 + k ≡ a + suc k = omega arith in e)

-- the stats that were read at a place are those that stand there
pub stats_there : (stats : List PartitionStats) {place s : ℕ} {found before : PartitionStats}
    → place ≡ s → found ≡ get_or stats place found → slice_get stats s ≡ Some before → found ≡ before
stats_there stats {place} {s} {found} {before} same here at =
    here ∙ (ap (λ (k : ℕ). get_or stats k found) same ∙ get_or_from_slice_get stats s before found at)

-- the stats after a superstep against an old run, by other names of what is read of that run and before
pub history_warm_at : {V M : Type 0} (registry : Registered) (rows : Rows) (member_changes : List ℕ) (part_run : PartRunState V M) (s : ℕ)
    (bundles : List (LoggedBundle M)) (after : PartitionStats) {old old' : Trace V M} {logs logs' : Slots M}
    {before before' old_before old_before' old_after old_after' : PartitionStats}
    → old ≡ old' → logs ≡ logs' → before ≡ before' → old_before ≡ old_before' → old_after ≡ old_after'
    → IsStatsHistoryWarm registry rows member_changes old logs part_run s bundles before old_before old_after after
    → IsStatsHistoryWarm registry rows member_changes old' logs' part_run s bundles before' old_before' old_after' after
history_warm_at registry rows member_changes part_run s bundles after {old} {old'} {logs} {logs'} {before} {before'} {old_before} {old_before'} {old_after}
    same_old same_logs same before_is after_is h =
    subst (λ x. IsStatsHistoryWarm registry rows member_changes old' logs' part_run s bundles before' old_before' x after) after_is
    (subst₂ (λ x y. IsStatsHistoryWarm registry rows member_changes old' logs' part_run s bundles x y old_after after) same before_is
    (subst₂ (λ x y. IsStatsHistoryWarm registry rows member_changes x y part_run s bundles before old_before old_after after) same_old same_logs h))

-- the stats after a superstep, by other names of what is looked at
pub next_stats_at : {V M : Type 0} (registry : Registered) (graph rows : Rows) (ids member_changes : List ℕ)
    (now stats then old_stats : List PartitionStats) (logs : Option (Slots M))
    (seen part_run : PartRunState V M) (k s : ℕ) (sent bundles : List (LoggedBundle M)) (after : PartitionStats) → graph ≡ rows → ids ≡ member_changes
    → now ≡ stats → then ≡ old_stats → seen ≡ part_run
    → k ≡ s → sent ≡ bundles → IsNextStats registry graph ids now then logs seen k sent after
    → IsNextStats registry rows member_changes stats old_stats logs part_run s bundles after
next_stats_at {V} {M} registry graph rows ids member_changes now stats then old_stats logs seen part_run k s sent bundles after g m n o c p b h =
    subst (λ (x : List (LoggedBundle M)). IsNextStats registry rows member_changes stats old_stats logs part_run s x after) b
    (subst (λ (x : ℕ). IsNextStats registry rows member_changes stats old_stats logs part_run x sent after) p
    (subst (λ (x : PartRunState V M). IsNextStats registry rows member_changes stats old_stats logs x k sent after) c
    (subst (λ (x : List PartitionStats). IsNextStats registry rows member_changes stats x logs seen k sent after) o
    (subst (λ (x : List PartitionStats). IsNextStats registry rows member_changes x then logs seen k sent after) n
    (subst (λ (x : List ℕ). IsNextStats registry rows x now then logs seen k sent after) m
    (subst (λ (x : Rows). IsNextStats registry x ids now then logs seen k sent after) g h))))))

module _ {V M : Type 0} (job : Job V M) where
  -- stats up to a superstep have those of each as it begins
  pub stats_of : (rows : Rows) (n p m s : ℕ) (stats : List PartitionStats) → stats ≡ stats_to job rows n p m → s ≤ m
      → slice_get stats s ≡ Some (stats_at job rows n p s)
  stats_of rows n p m s stats are within =
      ap (λ (l : List PartitionStats). slice_get l s) are
      ∙ (slice_get-range (stats_at job rows n p) 0 (m + 1) s (omega (arith, within))
      ∙ ap (λ (k : ℕ). Some (stats_at job rows n p k)) (let e : 0 + s ≡ s = omega arith in e))

  -- with those of one superstep more
  one_more : (rows : Rows) (n p r : ℕ) (stats : List PartitionStats) (next : PartitionStats) → stats ≡ stats_to job rows n p r
      → next ≡ stats_at job rows n p (r + 1)
      → stats ++ next ∷ [] ≡ stats_to job rows n p (r + 1)
  one_more rows n p r stats next are is =
      ap₂ (λ (l : List PartitionStats) (x : PartitionStats). l ++ x ∷ []) are is
      ∙ sym (map-range_with_len_more (stats_at job rows n p) 0 (r + 1) (r + 1) (let e : 0 + (r + 1) ≡ r + 1 = omega arith in e))

  -- what it has of an old run stays
  old_stays : (kept : Option Rows) (rows : Rows) (n p : ℕ) (before part : PartState V M) → part.member_changes ≡ before.member_changes → part.old_stats ≡ before.old_stats
      → HasOldStats job kept rows n p before → HasOldStats job kept rows n p part
  old_stays None rows n p before part member_changes old h = h
  old_stays (Some kept) rows n p before part member_changes old h = (old ∙ h.0, subst (λ ids. AreMemberChanges ids kept rows) (sym member_changes) h.1)

  module _ (rows : Rows) (n p r : ℕ) (some : 0 < n) (registry : Registered) (same : job.aggregators ≡ aggregators_of registry) (before : PartState V M)
      (part_run : PartRunState V M) (sent : List (LoggedBundle M)) (to_each : length sent ≡ n) (logs : Slots M) (next : PartitionStats) where
    -- a step against an old run that has the superstep
    warm : (old : Rows) → HasStats job (Some old) rows n p r before → Holds job (Some old) rows n p (r + 1) part_run
        → AreTheOnlyWarm job old rows n p r part_run.changed → ((q : ℕ) → q < n → IsSentTo job (Some old) rows n p q r (slice_get sent q))
        → (old_logs : Option (Slots M)) (old_visible : Option Visible) → IsOldStepInput job (Some old) n p r logs old_logs old_visible → part_run.was_warm ≡ true
        → IsNextStats registry before.graph before.member_changes before.stats before.old_stats old_logs part_run r sent next → next ≡ stats_at job rows n p (r + 1)
    warm old has holds only sends None old_visible step_input is_warm is = absurd (omega (arith, step_input, only.there))
    warm old has holds only sends (Some old_logs) None step_input is_warm is = absurd (omega (arith, step_input, only.there))
    warm old has holds only sends (Some old_logs) (Some old_visible) step_input is_warm is =
        let earlier : PartitionStats = stats_at job rows n p r in
        let old_earlier : PartitionStats = stats_at job old n p r in
        let old_later : PartitionStats = stats_at job old n p (r + 1) in
        let at : slice_get before.stats r ≡ Some earlier = stats_of rows n p r r before.stats has.stats_are (let e : r ≤ r = omega arith in e) in
        let old_at : slice_get before.old_stats r ≡ Some old_earlier =
        stats_of old n p (run_length job old) r before.old_stats has.warm.0 (omega (arith, only.there)) in
        let old_then : slice_get before.old_stats (r + 1) ≡ Some old_later =
        stats_of old n p (run_length job old) (r + 1) before.old_stats has.warm.0 (omega (arith, only.there)) in
        let history : IsStatsHistoryWarm registry before.graph before.member_changes holds.warm.trace old_logs part_run r sent earlier old_earlier old_later next =
        is.warm is_warm holds.warm.trace old_logs earlier old_earlier old_later holds.warm.is refl at old_at old_then in
        warm_is job rows n p some registry same r part_run holds.missing_is holds.run (Some old) sent to_each sends
        old before.member_changes has.warm.1 refl holds.partition_is holds.warm.trace holds.warm.whole old_logs step_input.0.sent
        only earlier old_earlier old_later next refl refl refl
        (subst (λ (g : Rows). IsStatsHistoryWarm registry g before.member_changes holds.warm.trace old_logs part_run r sent earlier old_earlier old_later next)
        has.graph_is history)

    -- any other step
    cold : (kept : Option Rows) → HasStats job kept rows n p r before → Holds job kept rows n p (r + 1) part_run
        → AreAllChanged job kept rows n p r false part_run.changed → ((q : ℕ) → q < n → IsSentTo job kept rows n p q r (slice_get sent q))
        → (old_logs : Option (Slots M)) → part_run.was_warm ≡ false
        → IsNextStats registry before.graph before.member_changes before.stats before.old_stats old_logs part_run r sent next → next ≡ stats_at job rows n p (r + 1)
    cold kept has holds only sends old_logs is_cold is =
        let earlier : PartitionStats = stats_at job rows n p r in
        let history : IsStatsHistory registry before.graph part_run r sent earlier next =
        is.cold is_cold earlier (stats_of rows n p r r before.stats has.stats_are (let e : r ≤ r = omega arith in e)) in
        after_is job rows n p some registry same r part_run holds.missing_is holds.run kept sent to_each sends only earlier next refl
        (subst (λ (g : Rows). IsStatsHistory registry g part_run r sent earlier next) has.graph_is history)

    pub next_is : (kept : Option Rows) → HasStats job kept rows n p r before → Holds job kept rows n p (r + 1) part_run
        → AreAllChanged job kept rows n p r part_run.was_warm part_run.changed → ((q : ℕ) → q < n → IsSentTo job kept rows n p q r (slice_get sent q))
        → (old_logs : Option (Slots M)) (old_visible : Option Visible) → IsOldStepInput job kept n p r logs old_logs old_visible
        → IsNextStats registry before.graph before.member_changes before.stats before.old_stats old_logs part_run r sent next → next ≡ stats_at job rows n p (r + 1)
    next_is kept has holds changed sends old_logs old_visible step_input is = by part_run.was_warm refl
      where
        warm_kept : (kept : Option Rows) → HasStats job kept rows n p r before → Holds job kept rows n p (r + 1) part_run
            → AreAllChanged job kept rows n p r true part_run.changed → ((q : ℕ) → q < n → IsSentTo job kept rows n p q r (slice_get sent q))
            → IsOldStepInput job kept n p r logs old_logs old_visible → part_run.was_warm ≡ true → next ≡ stats_at job rows n p (r + 1)
        warm_kept None has holds changed sends step_input is_warm = absurd changed
        warm_kept (Some old) has holds changed sends step_input is_warm = warm old has holds changed sends old_logs old_visible step_input is_warm is

        by : (t : Bool) → part_run.was_warm ≡ t → next ≡ stats_at job rows n p (r + 1)
        by false e = cold kept has holds (subst (λ (b : Bool). AreAllChanged job kept rows n p r b part_run.changed) e changed) sends old_logs e is
        by true e = warm_kept kept has holds (subst (λ (b : Bool). AreAllChanged job kept rows n p r b part_run.changed) e changed) sends step_input e

  -- a part with them holds its stats one superstep further
  pub has_next : (kept : Option Rows) (rows : Rows) (n p r : ℕ) (before part : PartState V M) → HasStats job kept rows n p r before
      → part.graph ≡ before.graph → part.member_changes ≡ before.member_changes → part.old_stats ≡ before.old_stats
      → (next : PartitionStats) → part.stats ≡ before.stats ++ next ∷ [] → next ≡ stats_at job rows n p (r + 1) → HasStats job kept rows n p (r + 1) part
  has_next kept rows n p r before part has graph member_changes old next stats is = record {
    graph_is = graph ∙ has.graph_is;
    stats_are = stats ∙ one_more rows n p r before.stats next has.stats_are is;
    warm = old_stays kept rows n p before part member_changes old has.warm;
  }
