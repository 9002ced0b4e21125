-- A run over partitions between two events, and when it is right.
use Rattle.std.specs.Prelude.{◌≡◌, ◌==◌, ℕ, ◌+◌, ◌<◌, ◌≤◌, nat_lt, Bool, true, false, cond, ◌&&◌, List, [], ◌∷◌, ◌++◌}
use Rattle.std.specs.Prelude.{map, length, slice_index_or, slice_set, take, Option, None, Some, IsSome, is_some}
use Rattle.std.specs.List.{All, filter, range_with_len, slice_get}
use Rattle.pg_core_machine.specs.Limits.{AreLimits, Limits}
use Rattle.pg_core.specs.Traces.{KeepsRetainedRun, RetainedRun, logs_in, shown_below, visible_in}
use Rattle.pg_core_machine.specs.Machine.{State, Reaches, after, first_state, host_of, is_allowed, place_at, was_lost}
use Rattle.pg_core_machine.specs.declared.event.Event.{Event}
use Rattle.pg_core_machine.specs.declared.event.Event.TheVariants.{Step}
use Rattle.pg_core.specs.declared.run_totals.RunTotals.{RunTotals}
use Rattle.pg_global.specs.Master.{Master, has_places, job_of}
use Rattle.pg_global.specs.Registry.{Registered}
use Rattle.pg_graph.specs.Rows.{HasRisingIds, Rows}
use Rattle.pg_inbox.specs.LoggedBundle.{Slots, slot_at}
use Rattle.pg_inbox.specs.Handed.{LoggedBundle}
use Rattle.pg_model.specs.Job.{Combining, Job, Program}
use Rattle.pg_model.specs.Run.{configuration, ending_after, run_length, visible_at}
use Rattle.pg_model.specs.declared.configuration.Configuration.{Configuration}
use Rattle.pg_model.specs.declared.run.Ending.{Ending}
use Rattle.pg_model.specs.declared.view.Declared.{Declared}
use Rattle.pg_model.specs.declared.view.Visible.{Visible}
use Rattle.pg_part.specs.Part.{HoldsShare, PartState}
use Rattle.pg_part.specs.StepInput.{IsStepInput, IsOldStepInput}
use Rattle.pg_part.specs.PartRun.{IsSentTo}

-- what a run over partitions is made with, and where it stands: its state and its events so far; the parts that aren't
-- away; what the partitions sent; what the master showed in each superstep up to the open one; what was counted as the
-- open superstep began, or as the run ended; why it ended, if it has; and the logs of the kept run, if there is one
pub record Progress (P C A V M : Type 0) : Type 0 where
  pub program : P
  pub combiner : C
  pub master : A
  pub graph : Rows
  pub limits : Limits
  pub run : ℕ
  pub state : State
  pub history : List Event
  pub parts : List (Option (PartState V M))
  pub logs : Slots M
  pub shown : List Visible
  pub run_totals : RunTotals
  pub ending : Option Ending
  pub kept : Option (RetainedRun V M)

-- a part that is here is of its partition, and at its place
pub record IsPartAt {V M : Type 0} (partitions : ℕ) (state : State) (p : ℕ) (part : PartState V M) : Type 0 where
  pub partition_is : part.part_run.partition ≡ p
  pub partitions_are : part.part_run.partitions ≡ partitions
  pub place_is : place_at p state ≡ Some part.part_run.place

-- a part is of partition p, and one superstep past its place
pub record IsNext {V M : Type 0} (partitions : ℕ) (state : State) (p : ℕ) (part : PartState V M) : Type 0 where
  pub partition_is : part.part_run.partition ≡ p
  pub partitions_are : part.part_run.partitions ≡ partitions
  pub place_is : (r : ℕ) → place_at p state ≡ Some r → part.part_run.place ≡ r + 1

-- what is so of every run over partitions, right or not: it has the numbers of one, its events led to its state, a part
-- that is here is at its partition's place, none is away past the open superstep, and something was shown in each
-- superstep up to it
pub record IsLawful {V M : Type 0} (limits : Limits) (declared : Declared) (registered registry : Registered)
    (state : State)
    (history : List Event) (parts : List (Option (PartState V M))) (shown : List Visible)
    (run_totals : RunTotals) : Type 0 where
  pub limits_are : AreLimits limits
  pub registry_is : registry ≡ registered
  pub few : length registered ≤ 16
  pub declared_are : has_places declared (length registered) ≡ true
  pub events : Reaches (first_state limits.partitions limits.workers) history state
  pub each : length parts ≡ limits.partitions
  pub here : (p : ℕ) (part : PartState V M) → slice_index_or parts p None ≡ Some part
      → IsPartAt limits.partitions state p part
  pub stays : (p r : ℕ) → place_at p state ≡ Some r → state.current < r → IsSome (slice_index_or parts p None)
  pub within : state.current < limits.limit
  pub shown_so_far : state.current < length shown
  pub shown_places : All (λ v. length v.values ≡ length registered) shown
  pub gathered_places : length run_totals.gathered ≡ length registered

-- a partition at this place has made superstep s
abbrev pub is_past : ℕ → Option ℕ → Bool
is_past s None = false
is_past s (Some r) = nat_lt s r

-- the superstep that is open, or how many there were once the run has ended
abbrev pub reached : State → ℕ
reached state = cond state.ended (state.current + 1) state.current

module _ {V M : Type 0} (job : Job V M) (rows : Rows) where
  -- what the run has counted as superstep s begins
  abbrev pub run_totals_at : ℕ → RunTotals
  run_totals_at s =
      let c : Configuration V M = configuration job rows s in
      record { gathered = c.gathered; sent = c.sent; dropped = c.dropped }

  -- why the run ended, where it has
  abbrev pub ending_in : State → Option Ending
  ending_in state = cond state.ended (ending_after job rows state.current) None

module _ {V M : Type 0} (job : Job V M) (rows : Rows) where
  -- the logs have what each partition sent in the supersteps that it has made, against the run on the rows that are
  -- kept for it, if any, and nothing else
  pub record LogsHold (keeps : ℕ → Option Rows) (n : ℕ) (places : List (Option ℕ)) (logs : Slots M) : Type 0 where
    pub sent : (s p q : ℕ) → is_past s (slice_index_or places p None) ≡ true → q < n
        → IsSentTo job (keeps p) rows n p q s (slot_at logs s p q)
    pub no_more : (s p q : ℕ) → (is_past s (slice_index_or places p None) && nat_lt q n) ≡ false
        → slot_at logs s p q ≡ None

  -- partition p holds its share of the run at its place, against the run on the rows that are kept for it, if any
  abbrev pub HoldsAt : Option Rows → ℕ → ℕ → Option ℕ → PartState V M → Type 0
  HoldsAt kept n p None part = ⊥
  HoldsAt kept n p (Some r) part = HoldsShare job kept rows n p r part

module _ {P C A V M : Type 0} where
  -- the job of a run, by what its program, its combiner and its master mean
  abbrev pub job_of_core : (P → Program V M) → (C → Option (Combining M)) → (A → Master) → Progress P C A V M → Job V M
  job_of_core program combining master core =
      job_of (program core.program) (combining core.combiner) (master core.master) core.limits.missing core.limits.limit

  -- the part of a partition, where it isn't away
  abbrev pub part_at : ℕ → Progress P C A V M → Option (PartState V M)
  part_at p core = slice_index_or core.parts p None

  -- a loss has taken partition p in this run
  abbrev pub has_lost : Progress P C A V M → ℕ → Bool
  has_lost core p = was_lost p (first_state core.limits.partitions core.limits.workers) core.history

  -- the rows of the kept run against which partition p goes on: those that are kept, if any, until a loss takes the
  -- partition, since its trace of that run is gone then
  abbrev pub kept_for : Option Rows → Progress P C A V M → ℕ → Option Rows
  kept_for kept core p = cond (has_lost core p) None kept

  -- what it has is the run's on its graph, where these rows are kept for each partition: each part that is here holds
  -- its share at its place, next to parts at other places, and against the run that is kept for its partition, if any;
  -- the logs hold what the partitions sent on their way there, those that are away too, and nothing of one that is
  -- lost; what was shown and counted is the run's, and so is why it ended; what it has of the kept run is that run's
  pub record IsRightWith (job : Job V M) (kept : Option Rows) (keeps : ℕ → Option Rows)
      (core : Progress P C A V M) : Type 0 where
    pub within : core.state.current < run_length job core.graph
    pub parts : (p : ℕ) (part : PartState V M) → part_at p core ≡ Some part
        → HoldsAt job core.graph (keeps p) core.limits.partitions p (place_at p core.state) part
    pub logs : LogsHold job core.graph keeps core.limits.partitions core.state.places core.logs
    pub shown : core.shown ≡ shown_below job core.graph (core.state.current + 1)
    pub run_totals : core.run_totals ≡ run_totals_at job core.graph (reached core.state)
    pub ending : core.ending ≡ ending_in job core.graph core.state
    pub at_end : core.state.ended ≡ true → core.state.current + 1 ≡ run_length job core.graph
    pub warm : KeepsRetainedRun job kept core.limits.partitions core.kept

  -- it is right against the kept run, if any: that is kept for each partition that no loss took
  abbrev pub IsRight : Job V M → Option Rows → Progress P C A V M → Type 0
  IsRight job kept core = IsRightWith job kept (kept_for kept core) core

  -- the part of a partition can be taken for a step
  abbrev pub is_ready : Progress P C A V M → ℕ → Bool
  is_ready core p = is_allowed core.state (Step p) && is_some (part_at p core)

  -- hosts with their partitions that are ready, by rising partition
  abbrev pub ready_of : Progress P C A V M → List (ℕ × ℕ)
  ready_of core = map (λ p. (host_of p core.state, p))
      (filter (is_ready core) (range_with_len 0 core.limits.partitions))

  -- as a run opens on a graph, whose ids rise: nothing has happened, and all parts are here
  pub record IsOpened (core : Progress P C A V M) (program : P) (combiner : C) (master : A) (graph : Rows)
      (limits : Limits) (run : ℕ) : Type 0 where
    pub program_is : core.program ≡ program
    pub combiner_is : core.combiner ≡ combiner
    pub master_is : core.master ≡ master
    pub graph_is : core.graph ≡ graph
    pub rising : HasRisingIds graph
    pub limits_are : core.limits ≡ limits
    pub run_is : core.run ≡ run
    pub state_is : core.state ≡ first_state limits.partitions limits.workers
    pub history_is : core.history ≡ []
    pub parts_are : (p : ℕ) → p < limits.partitions → IsSome (part_at p core)

  -- without the part of a partition
  abbrev pub without_part : ℕ → Progress P C A V M → Progress P C A V M
  without_part p core = record core { parts = slice_set core.parts p None }

  -- a partition made a step, and its part is this one now
  abbrev pub with_step : ℕ → PartState V M → Progress P C A V M → Progress P C A V M
  with_step p part core = record core {
    state = after core.state (Step p);
    history = core.history ++ Step p ∷ [];
    parts = slice_set core.parts p (Some part);
  }

-- these bundles of partition p were put into the logs of superstep s, one to each partition from 0 on, and nothing else
abbrev pub HasPut : {M : Type 0} → ℕ → ℕ → List (LoggedBundle M) → Slots M → Slots M → Type 0
HasPut s p bundles before after =
    (t other q : ℕ) → slot_at after t other q ≡ cond ((p == other) && ((s == t) && nat_lt q (length bundles)))
    (slice_get bundles q) (slot_at before t other q)

module _ {P C A V M : Type 0} where
  -- a step of partition p was taken in: the part, the event, and what was sent to each partition in the superstep that
  -- it was at
  pub record TakesIn (p : ℕ) (part : PartState V M) (sent : List (LoggedBundle M))
      (before after : Progress P C A V M) : Type 0 where
    pub core_is : after ≡ record (with_step p part before) { logs = after.logs }
    pub logs_are : (r : ℕ) → place_at p before.state ≡ Some r
        → HasPut r p (take before.limits.partitions sent) before.logs after.logs

-- a part and what it sent are those of the run after a step of partition p of n from r, against the kept run, if any
pub record IsStepFrom {V M : Type 0} (job : Job V M) (kept : Option Rows) (rows : Rows) (n p r : ℕ)
    (part : PartState V M) (sent : List (LoggedBundle M)) : Type 0 where
  pub holds : HoldsShare job kept rows n p (r + 1) part
  pub to_each : length sent ≡ n
  pub sends : (q : ℕ) → q < n → IsSentTo job kept rows n p q r (slice_get sent q)

module _ {P C A V M : Type 0} where
  -- the same of a core, from the place of the partition there, and against the run that is kept for it
  abbrev pub IsStepOf : Job V M → Option Rows → Progress P C A V M → ℕ → PartState V M → List (LoggedBundle M) → Type 0
  IsStepOf job kept core p part sent =
      (r : ℕ) → place_at p core.state ≡ Some r
      → IsStepFrom job (kept_for kept core p) core.graph core.limits.partitions p r part sent

  -- what a step of partition p from r borrows of the run, against the run that is kept for it, if any, and the part
  -- that makes it
  pub record HasStepInput (job : Job V M) (kept : Option Rows) (core : Progress P C A V M) (p r : ℕ)
      (part : PartState V M) : Type 0 where
    pub holds : HoldsShare job (kept_for kept core p) core.graph core.limits.partitions p r part
    pub step_input : IsStepInput job core.graph core.limits.partitions p r core.logs (visible_at job core.graph r)
    pub warm : IsOldStepInput job (kept_for kept core p) core.limits.partitions p r core.logs (logs_in r core.kept)
        (visible_in r core.kept)
    pub open_or_before : r ≤ core.state.current
