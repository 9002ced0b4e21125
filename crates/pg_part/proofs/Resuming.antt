-- A part that goes on by the records of the run holds its share of that.
use Rattle.std.proofs.Common.{◌≡◌, ℕ, ◌+◌, ◌<◌, ◌≤◌, List, [], ◌∷◌, ◌++◌, length, take, Option, None, Some}
use Rattle.std.proofs.Common.{slice_index_or, refl, ap, sym, ◌∙◌, subst, subst₂, arith, add-one}
use Rattle.std.specs.List.{AllByRecursion, slice_get}
use Rattle.std.proofs.lemmas.List.{get_or_push, length-append, length-take-le, take-append-le, take_all}
use Rattle.pg_part.specs.PartRun.{AreTheOnly, PartRunState, Holds, IsResumed, IsSentTo, with_resumed}
use Rattle.pg_part.proofs.RunResuming.{resumed_holds, resumed_only}
use Rattle.pg_part_compute.proofs.Coverage.{length_below, records_held}
use Rattle.pg_global.specs.Registry.{Registered}
use Rattle.pg_graph.specs.Rows.{Rows}
use Rattle.pg_inbox.specs.Handed.{LoggedBundle, bundle_of}
use Rattle.pg_model.specs.Job.{Combining, Job}
use Rattle.pg_model.specs.Run.{run_length}
use Rattle.pg_model.specs.Share.{records_below, records_in}
use Rattle.pg_model.specs.declared.record.Record.{Record}
use Rattle.pg_part.specs.Part.{HoldsShare, PartState}
use Rattle.pg_part.specs.StatsHistories.{IsStatsHistoryByRecords}
use Rattle.pg_part.proofs.StatsHistories.{recorded_is}
use Rattle.pg_part.proofs.Stepping.{has_next, stats_of}
use Rattle.pg_part_routing.specs.Sending.{IsFresh, items_to, sends_by_records}
use Rattle.pg_part_routing.proofs.Outbox.{by_records}
use Rattle.pg_stats.specs.GlobalStats.{aggregators_of}
use Rattle.pg_stats.specs.Stats.{stats_at}
use Rattle.pg_stats.specs.declared.stats.PartitionStats.{PartitionStats}
use Rattle.pg_trace.specs.Trace.{Trace, begun, records_of}

module _ {V M : Type 0} (job : Job V M) (rows : Rows) (n p : ℕ) where
  -- one superstep further
  pub resumed_one : (s : ℕ) (registry : Registered) → job.aggregators ≡ aggregators_of registry → (before part : PartState V M) → HoldsShare job None rows n p s before
      → s < run_length job rows → (records : List (ℕ × Record V M)) → records ≡ records_in job rows n p s → part.part_run ≡ with_resumed records before.part_run
      → part.graph ≡ before.graph → part.member_changes ≡ before.member_changes → part.old_stats ≡ before.old_stats
      → (next : PartitionStats) → part.stats ≡ before.stats ++ next ∷ []
      → ((earlier : PartitionStats) → slice_get before.stats s ≡ Some earlier → IsStatsHistoryByRecords registry before.graph part.part_run s earlier next)
      → HoldsShare job None rows n p (s + 1) part
  resumed_one s registry same before part held within records are advanced graph member_changes old next stats is_next =
      let part_run = subst (Holds job None rows n p (s + 1)) (sym advanced) (resumed_holds job rows n p s before.part_run held.part_run records are) in
      let only = subst (λ (h : PartRunState V M). AreTheOnly job rows n p s h.changed) (sym advanced)
      (resumed_only job rows n p s before.part_run held.part_run records are within) in
      let earlier = stats_at job rows n p s in
      let history = is_next earlier (stats_of job rows n p s s before.stats held.stats.stats_are (omega arith)) in
      record {
        part_run = part_run;
        stats = has_next job None rows n p s before part held.stats graph member_changes old next stats
            (recorded_is job rows n p s part.part_run part_run.run registry same part_run.missing_is only earlier next refl
            (subst (λ (g : Rows). IsStatsHistoryByRecords registry g part.part_run s earlier next) held.stats.graph_is history));
      }

  -- the records of the run's supersteps below one more end with those of the next
  pub last_below : (before : List (List (ℕ × Record V M))) (one : List (ℕ × Record V M)) → before ++ one ∷ [] ≡ records_below job rows n p (length before + 1)
      → (before ≡ records_below job rows n p (length before)) × (one ≡ records_in job rows n p (length before))
  unfolding records_below
  last_below before one are = (
    sym (take-append-le (length before) before (one ∷ []) (omega arith) ∙ take_all (length before) before (omega arith))
        ∙ ap (take (length before)) (are ∙ ap (records_below job rows n p) (add-one (length before)))
        ∙ take-append-le (length before) (records_below job rows n p (length before)) (records_in job rows n p (length before) ∷ [])
        (let long = length_below job rows n p (begun []) (length before) in omega (arith, long))
        ∙ take_all (length before) (records_below job rows n p (length before)) (let long = length_below job rows n p (begun []) (length before) in omega (arith, long)),
    sym (get_or_push before one [] (length before) refl)
        ∙ ap (λ l. slice_index_or l (length before) []) (are ∙ ap (records_below job rows n p) (add-one (length before)))
        ∙ get_or_push (records_below job rows n p (length before)) (records_in job rows n p (length before)) [] (length before)
        (length_below job rows n p (begun []) (length before)),
  )

  -- so it goes on: who holds the share so far, and then one superstep more, holds that
  pub on_advanced : (part next : PartState V M) (before : List (List (ℕ × Record V M))) (one : List (ℕ × Record V M)) (k m : ℕ) → k ≡ length before → m ≡ k + 1
      → (k ≤ run_length job rows → before ≡ records_below job rows n p k → HoldsShare job None rows n p k part)
      → ((s : ℕ) → HoldsShare job None rows n p s part → s < run_length job rows → one ≡ records_in job rows n p s → HoldsShare job None rows n p (s + 1) next)
      → m ≤ run_length job rows → before ++ one ∷ [] ≡ records_below job rows n p m → HoldsShare job None rows n p m next
  on_advanced part next before one k m long more so_far advanced within are =
      let parts = last_below before one (are ∙ ap (records_below job rows n p) (more ∙ ap (λ j. j + 1) long)) in
      let held = so_far (omega (arith, within, more)) (parts.0 ∙ ap (records_below job rows n p) (sym long)) in
      subst (λ j. HoldsShare job None rows n p j next) (sym more)
      (advanced k held (omega (arith, within, more)) (parts.1 ∙ ap (records_in job rows n p) (sym long)))

  -- what a part that holds its share has recorded are the records of the run so far
  pub again : (part : PartState V M) (records : List (List (ℕ × Record V M))) {many : ℕ} → many ≡ length records
      → (many ≤ run_length job rows → records ≡ records_below job rows n p many → HoldsShare job None rows n p many part)
      → (kept : Option Rows) (r : ℕ) (before : PartState V M) → r ≤ run_length job rows → HoldsShare job kept rows n p r before
      → records ≡ take r before.part_run.trace.records → HoldsShare job None rows n p r part
  again part records {many} long holds kept r before within held are =
      let enough : r ≤ length before.part_run.trace.records = let e = held.part_run.supersteps in omega (arith, e) in
      let as_many : many ≡ r = long ∙ ap length are ∙ length-take-le r before.part_run.trace.records enough in
      subst (λ k. HoldsShare job None rows n p k part) as_many
      (holds (omega (arith, as_many, within)) (are ∙ held.part_run.run.records ∙ ap (records_below job rows n p) (sym as_many)))

  -- a fresh bundle of what it has recorded in a superstep is what the run sends
  pub fresh_is_sent : (kept : Option Rows) (r q s : ℕ) (part : PartState V M) (slot : Option (LoggedBundle M)) → HoldsShare job kept rows n p r part → s < r
      → IsFresh job.combining (items_to n q (sends_by_records (records_of s part.part_run.trace))) slot → IsSentTo job None rows n p q s slot
  fresh_is_sent kept r q s part None held below fresh = fresh
  fresh_is_sent kept r q s part (Some logged) held below fresh = (
    fresh.0
        ∙ (ap (λ (records : List (ℕ × Record V M)). bundle_of job.combining (items_to n q (sends_by_records records)))
        (records_held job rows n p part.part_run.trace s r held.part_run.run below)
        ∙ ap (bundle_of job.combining) (by_records n q (records_in job rows n p s))),
    fresh.1,
  )

  -- so are all of them
  pub sent_again : (kept : Option Rows) (r q s : ℕ) (part : PartState V M) {m : ℕ} {trace : Trace V M} {combining : Option (Combining M)}
      → job.combining ≡ combining → m ≡ part.part_run.partitions → trace ≡ part.part_run.trace → HoldsShare job kept rows n p r part → s < r → q < n
      → (sent : List (LoggedBundle M))
      → ((q : ℕ) → q < m → IsFresh combining (items_to m q (sends_by_records (records_of s trace))) (slice_get sent q))
      → IsSentTo job None rows n p q s (slice_get sent q)
  sent_again kept r q s part {m} {trace} {combining} same of_all at held below within sent fresh =
      let all : m ≡ n = of_all ∙ held.part_run.partitions_are in
      fresh_is_sent kept r q s part (slice_get sent q) held below
      (subst (λ (k : Option (Combining M)). IsFresh k (items_to n q (sends_by_records (records_of s part.part_run.trace))) (slice_get sent q)) (sym same)
      (subst₂ (λ (k : ℕ) (t : Trace V M). IsFresh combining (items_to k q (sends_by_records (records_of s t))) (slice_get sent q)) all at
      (fresh q (subst (λ k. q < k) (sym all) within))))

module _ {V M : Type 0} where
  -- a part run that began, and went on by records, has these and no others
  pub next_place : (records : List (List (ℕ × Record V M))) (start part_run : PartRunState V M) → IsResumed records start part_run → start.place ≡ 0
      → start.trace.records ≡ []
      → (length part_run.trace.records ≡ part_run.place) × (part_run.place ≡ length records)
  next_place records start part_run resumed first none =
      let place : part_run.place ≡ length records = let at = resumed.place_is in omega (arith, at, first) in
      (ap (λ t. length t.records) resumed.trace_is ∙ ap (λ l. length (l ++ records)) none ∙ sym place, place)

  -- the stats after a superstep by its records, by other names of what is looked at
  pub recorded_at : (registry : Registered) (graph rows : Rows) (now stats : List PartitionStats) (part_run : PartRunState V M) (k s : ℕ) (next : PartitionStats)
      → graph ≡ rows → now ≡ stats → k ≡ s
      → ((earlier : PartitionStats) → slice_get now k ≡ Some earlier → IsStatsHistoryByRecords registry graph part_run k earlier next)
      → (earlier : PartitionStats) → slice_get stats s ≡ Some earlier → IsStatsHistoryByRecords registry rows part_run s earlier next
  recorded_at registry graph rows now stats part_run k s next same_graph same_stats same h =
      subst (λ (x : ℕ). (earlier : PartitionStats) → slice_get stats x ≡ Some earlier → IsStatsHistoryByRecords registry rows part_run x earlier next) same
      (subst (λ (x : List PartitionStats). (earlier : PartitionStats) → slice_get x k ≡ Some earlier → IsStatsHistoryByRecords registry rows part_run k earlier next) same_stats
      (subst (λ (x : Rows). (earlier : PartitionStats) → slice_get now k ≡ Some earlier → IsStatsHistoryByRecords registry x part_run k earlier next) same_graph h))

-- who stands in the midst of a list has fewer before it than that has
pub fewer_before : {X : Type 0} (before rest : List X) (x : X) {remaining whole : List X} → remaining ≡ x ∷ rest → before ++ remaining ≡ whole → length before < length whole
fewer_before before rest x {remaining} {whole} next is =
    let all = length-append before (x ∷ rest) in
    let same : length (before ++ x ∷ rest) ≡ length whole = ap (λ l. length (before ++ l)) (sym next) ∙ ap length is in
    omega (arith, all, same)

-- what holds of each of a list holds of one in the midst of it
pub of_each : {X : Type 0} (P : X → Type 0) (before rest : List X) (x : X) {remaining whole : List X} → remaining ≡ x ∷ rest → before ++ remaining ≡ whole
    → AllByRecursion P whole → P x
of_each {X} P before rest x next is all = among before (subst (AllByRecursion P) (sym (ap (λ l. before ++ l) (sym next) ∙ is)) all)
  where
    among : (before : List X) → AllByRecursion P (before ++ x ∷ rest) → P x
    among [] h = h.0
    among (y ∷ before) h = among before h.1
