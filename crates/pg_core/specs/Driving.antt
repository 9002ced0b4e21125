-- What stays of a run over partitions as it is driven on, and the calls and the losses that its history tells of.
use Rattle.std.specs.Prelude.{◌≡◌, ℕ, Bool, false, cond, List, Option, None}
use Rattle.pg_core_machine.specs.Losses.{counts_in, losses_in}
use Rattle.pg_core_machine.specs.Machine.{first_state}
use Rattle.pg_core.specs.Progress.{Progress}
use Rattle.pg_graph.specs.Rows.{Rows}
use Rattle.pg_model.specs.Job.{Job}
use Rattle.pg_model.specs.Needed.{needed_in}
use Rattle.pg_model.specs.Share.{belongs}

module _ {V M : Type 0} (value_eq : V → V → Bool) (message_eq : M → M → Bool) (job : Job V M) (rows : Rows)
    (n : ℕ) where
  -- how many executions of partition p of n are needed in superstep r: against the kept run, if any, unless a loss took
  -- the partition, and all then
  abbrev pub needs_of : Option Rows → Bool → ℕ → ℕ → ℕ
  needs_of kept lost p r = needed_in value_eq message_eq job (cond lost None kept) rows (belongs n p) r

module _ {P C A V M : Type 0} where
  -- the calls of compute that a history tells of: each step's, by whether a loss had taken its partition before
  abbrev pub calls_in : (V → V → Bool) → (M → M → Bool) → Job V M → Option Rows → Progress P C A V M → ℕ
  calls_in value_eq message_eq job kept core =
      counts_in (needs_of value_eq message_eq job core.graph core.limits.partitions kept) (λ p. false)
      (first_state core.limits.partitions core.limits.workers) core.history

  -- the workers that a history takes away, each with the least superstep of what it hosted then
  abbrev pub losses_of : Progress P C A V M → List (ℕ × Option ℕ)
  losses_of core = losses_in (first_state core.limits.partitions core.limits.workers) core.history

  -- the same run, between two other events
  pub record IsSameRun (before after : Progress P C A V M) : Type 0 where
    pub program_is : after.program ≡ before.program
    pub combiner_is : after.combiner ≡ before.combiner
    pub master_is : after.master ≡ before.master
    pub graph_is : after.graph ≡ before.graph
    pub limits_are : after.limits ≡ before.limits
    pub run_is : after.run ≡ before.run
