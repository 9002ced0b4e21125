-- One partition of a run at a superstep, and what a step makes of it.
use Rattle.std.specs.Prelude.{◌≡◌, ℕ, suc, ◌+◌, ◌<◌, ◌≤◌, ◌⊎◌, max, length, Bool, true, false, List, [], ◌++◌, Option}
use Rattle.std.specs.Prelude.{None, Some}
use Rattle.std.specs.List.{slice_get}
use Rattle.std.specs.List.Sorted.{IsStrictlySortedBy}
use Rattle.std.specs.Map.{keys_of}
use Rattle.std.specs.Ordering.{nat_cmp}
use Rattle.pg_graph.specs.Rows.{Rows, row_at}
use Rattle.pg_map.specs.Entries.{value_at}
use Rattle.pg_graph.specs.declared.missing.Missing.{Missing}
use Rattle.pg_inbox.specs.Handed.{LoggedBundle, TellsChanges}
use Rattle.pg_model.specs.ByIds.{state_at}
use Rattle.pg_model.specs.Job.{Job}
use Rattle.pg_model.specs.Needed.{needed_in}
use Rattle.pg_model.specs.Run.{run_length}
use Rattle.pg_model.specs.Share.{belongs, records_in}
use Rattle.pg_model.specs.Superstep.{capped, has_id}
use Rattle.pg_model.specs.declared.record.Record.{Record}
use Rattle.pg_part_compute.specs.Diverged.{are_quiescent}
use Rattle.pg_stats.specs.VertexCounts.{states_among}
use Rattle.pg_stats.specs.declared.vertices.VertexCountsDelta.{VertexCountsDelta}
use Rattle.pg_part_routing.specs.Routes.{bundle_sent}
use Rattle.pg_part_routing.specs.Starting.{PartRows}
use Rattle.pg_stats.specs.Stats.{vertex_counts_of}
use Rattle.pg_trace.specs.OfRun.{HoldsRun}
use Rattle.pg_trace.specs.Trace.{Trace, records_of, with_superstep}

-- a partition at a superstep: which it is, and its trace so far; where it is warm also the trace of the old run, and
-- the ids at which the two may have other states, those quiescent in both apart from the others; and the ids that the
-- last step may have changed, against the old run or against the superstep before
pub record PartRunState (V M : Type 0) : Type 0 where
  pub partition : ℕ
  pub partitions : ℕ
  pub missing : Missing
  pub place : ℕ
  pub trace : Trace V M
  pub kept : Option (Trace V M)
  pub live : List ℕ
  pub quiescent : List ℕ
  pub changed : List ℕ
  pub was_warm : Bool

-- these are the vertex counts of these ids before and after the superstep that a trace made last
abbrev pub HasVertexCountsDelta : {V M : Type 0} → ℕ → List ℕ → Trace V M → VertexCountsDelta → Type 0
HasVertexCountsDelta place ids trace vertex_counts_delta =
    (s : ℕ) → place ≡ s + 1 → (vertex_counts_delta.removed ≡ vertex_counts_of (states_among s ids trace))
    × (vertex_counts_delta.added ≡ vertex_counts_of (states_among (s + 1) ids trace))

-- the ids at which its run and the old one may have other states
abbrev pub diverged : {V M : Type 0} → PartRunState V M → List ℕ
diverged part_run = part_run.live ++ part_run.quiescent

-- at all other ids two graphs have the same rows
abbrev pub AreTouched : List ℕ → Rows → Rows → Type 0
AreTouched ids old new = (id : ℕ) → has_id ids id ≡ false → row_at id old ≡ row_at id new

module _ {V M : Type 0} (job : Job V M) where
  -- a partition's trace of a whole run
  pub record IsWhole (rows : Rows) (n p : ℕ) (trace : Trace V M) : Type 0 where
    pub run : HoldsRun job rows n p (run_length job rows) trace
    pub supersteps : length trace.records ≡ run_length job rows

  -- how many supersteps the kept run has
  abbrev pub kept_length : Option Rows → ℕ
  kept_length None = 0
  kept_length (Some rows) = run_length job rows

  -- partition p of n, as superstep r begins, has the trace of the run on the old rows, in which its own goes on;
  -- outside of the ids that may differ the two runs have the same states, and past the end of the old one those with
  -- which it ended; and those that are quiescent are so in both
  pub record IsWarm (old rows : Rows) (n p r : ℕ) (part_run : PartRunState V M) : Type 0 where
    pub trace : Trace V M
    pub is : part_run.kept ≡ Some trace
    pub whole : HoldsRun job old n p (run_length job old) trace
    pub later : (s : ℕ) → r ≤ s → s < run_length job old → records_of s part_run.trace ≡ records_in job old n p s
    pub others : (id : ℕ) → belongs n p id ≡ true → has_id (diverged part_run) id ≡ false → r ≤ run_length job old
        → state_at job old r id ≡ state_at job rows r id
    pub as_ended : (id : ℕ) → belongs n p id ≡ true → has_id (diverged part_run) id ≡ false → run_length job old ≤ r
        → state_at job old (run_length job old) id ≡ state_at job rows r id
    pub rest : (id : ℕ) → belongs n p id ≡ true → has_id part_run.quiescent id ≡ true → r < run_length job old
        → are_quiescent (state_at job old r id) (state_at job rows r id) ≡ true

  -- a cold one has nothing of an old run
  abbrev pub IsWarmWith : Option Rows → Rows → ℕ → ℕ → ℕ → PartRunState V M → Type 0
  IsWarmWith None rows n p r part_run = part_run.kept ≡ None
  IsWarmWith (Some old) rows n p r part_run = IsWarm old rows n p r part_run

  -- it holds its share of the run on these rows as superstep r begins, against the run on the kept rows, if any
  pub record Holds (kept : Option Rows) (rows : Rows) (n p r : ℕ) (part_run : PartRunState V M) : Type 0 where
    pub partition_is : part_run.partition ≡ p
    pub partitions_are : part_run.partitions ≡ n
    pub missing_is : part_run.missing ≡ job.missing
    pub place_is : part_run.place ≡ r
    pub run : HoldsRun job rows n p r part_run.trace
    pub supersteps : length part_run.trace.records ≡ max r (kept_length kept)
    pub warm : IsWarmWith kept rows n p r part_run

  -- where the kept run has the superstep, a bundle of it tells at which targets it differs from that run's
  abbrev pub TellsWarm : Option Rows → ℕ → ℕ → ℕ → ℕ → LoggedBundle M → Type 0
  TellsWarm None n p q r logged = logged.changed ≡ None
  TellsWarm (Some old) n p q r logged = r < run_length job old → TellsChanges (bundle_sent job old n p q r) logged

  -- what partition p sends to partition q in superstep r
  abbrev pub IsSentTo : Option Rows → Rows → ℕ → ℕ → ℕ → ℕ → Option (LoggedBundle M) → Type 0
  IsSentTo kept rows n p q r None = ⊥
  IsSentTo kept rows n p q r (Some logged) =
      (logged.bundle ≡ bundle_sent job rows n p q r) × TellsWarm kept n p q r logged

  -- the partition's vertices outside of these ids have no record in superstep s, and it leaves them as they were
  pub record AreTheOnly (rows : Rows) (n p s : ℕ) (ids : List ℕ) : Type 0 where
    pub rise : IsStrictlySortedBy nat_cmp ids
    pub mine : (id : ℕ) → has_id ids id ≡ true → belongs n p id ≡ true
    pub records : (id : ℕ) → has_id ids id ≡ false → value_at id (records_in job rows n p s) ≡ None
    pub states : (id : ℕ) → belongs n p id ≡ true → has_id ids id ≡ false
        → state_at job rows (suc s) id ≡ state_at job rows s id

  -- superstep s takes a vertex from the same state to the same in both runs, or leaves it as it was in each
  abbrev pub HasSameTransition : Rows → Rows → ℕ → ℕ → Type 0
  HasSameTransition old rows s id =
      ((state_at job old s id ≡ state_at job rows s id) × (state_at job old (suc s) id ≡ state_at job rows (suc s) id))
      ⊎ ((state_at job old (suc s) id ≡ state_at job old s id)
      × (state_at job rows (suc s) id ≡ state_at job rows s id))

  -- or they have the records of the old run, which has the superstep, and have the same transition as in it
  pub record AreTheOnlyWarm (old rows : Rows) (n p s : ℕ) (ids : List ℕ) : Type 0 where
    pub there : s < run_length job old
    pub rise : IsStrictlySortedBy nat_cmp ids
    pub mine : (id : ℕ) → has_id ids id ≡ true → belongs n p id ≡ true
    pub records : (id : ℕ) → has_id ids id ≡ false
        → value_at id (records_in job old n p s) ≡ value_at id (records_in job rows n p s)
    pub states : (id : ℕ) → belongs n p id ≡ true → has_id ids id ≡ false → HasSameTransition old rows s id

  abbrev pub AreAllChanged : Option Rows → Rows → ℕ → ℕ → ℕ → Bool → List ℕ → Type 0
  AreAllChanged kept rows n p s false ids = AreTheOnly rows n p s ids
  AreAllChanged None rows n p s true ids = ⊥
  AreAllChanged (Some old) rows n p s true ids = AreTheOnlyWarm old rows n p s ids

  -- a step took the partition to the next superstep: it sent what its share sends, and counted just the executions of
  -- its vertices that are needed against the kept run, if any
  pub record HasStepped (value_eq : V → V → Bool) (message_eq : M → M → Bool) (kept : Option Rows) (rows : Rows)
      (n p r : ℕ)
      (part_run : PartRunState V M) (sent : List (LoggedBundle M)) (calls calls_after : ℕ) : Type 0 where
    pub holds : Holds kept rows n p (r + 1) part_run
    pub to_each : length sent ≡ n
    pub sends : (q : ℕ) → q < n → IsSentTo kept rows n p q r (slice_get sent q)
    pub changed_are : AreAllChanged kept rows n p r part_run.was_warm part_run.changed
    pub counted : calls_after ≡ capped (calls + needed_in value_eq message_eq job kept rows (belongs n p) r)

-- a partition of these rows to which nothing has happened
pub record HasBegun {V M : Type 0} (rows : PartRows) (missing : Missing) (part_run : PartRunState V M) : Type 0 where
  pub partition_is : part_run.partition ≡ rows.partition
  pub partitions_are : part_run.partitions ≡ rows.partitions
  pub missing_is : part_run.missing ≡ missing
  pub place_is : part_run.place ≡ 0

-- the same partition, one superstep later
pub record IsAdvanced {V M : Type 0} (before after : PartRunState V M) : Type 0 where
  pub partition_stays : after.partition ≡ before.partition
  pub partitions_stay : after.partitions ≡ before.partitions
  pub missing_stays : after.missing ≡ before.missing
  pub place_is : after.place ≡ before.place + 1

-- a cold part run one superstep further by the records of that, which isn't made anew
abbrev pub with_resumed : {V M : Type 0} → List (ℕ × Record V M) → PartRunState V M → PartRunState V M
with_resumed records part_run = record part_run {
  place = part_run.place + 1;
  trace = with_superstep records part_run.trace;
  kept = None;
  live = [];
  quiescent = [];
  changed = keys_of records;
  was_warm = false;
}

-- the same partition after more supersteps, of which these are the records; it has nothing of an old run
pub record IsResumed {V M : Type 0} (records : List (List (ℕ × Record V M)))
    (before after : PartRunState V M) : Type 0 where
  pub partition_stays : after.partition ≡ before.partition
  pub partitions_stay : after.partitions ≡ before.partitions
  pub missing_stays : after.missing ≡ before.missing
  pub place_is : after.place ≡ before.place + length records
  pub trace_is : after.trace ≡ record before.trace { records = before.trace.records ++ records }
  pub cold : after.kept ≡ None
