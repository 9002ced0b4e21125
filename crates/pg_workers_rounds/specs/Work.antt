-- What a worker makes of its parts.
use Rattle.std.specs.Prelude.{◌≡◌, ℕ, ◌+◌, ◌<◌, ◌^◌, Bool, true, false, List, ◌∷◌, ◌++◌, Option, All}
use Rattle.std.specs.List.{AllZip}
use Rattle.pg_part.specs.PartRun.{IsAdvanced}
use Rattle.pg_part.specs.StepInput.{IsStepInput, IsOldStepInput}
use Rattle.pg_graph.specs.Rows.{Rows}
use Rattle.pg_model.specs.Job.{Combining, Job, Program}
use Rattle.pg_part.specs.Part.{HasMadeStep, HoldsShare, PartState}
use Rattle.pg_stats.specs.GlobalStats.{aggregators_of}
use Rattle.pg_workers_rounds.specs.Round.{RoundOf}
use Rattle.pg_workers_rounds.specs.declared.working.Done.{Done}

-- these parts stand at a superstep
abbrev pub AreAt : {V M : Type 0} → ℕ → List (PartState V M) → Type 0
AreAt superstep parts = All (λ part. (part.part_run.place ≡ superstep) × (part.part_run.place + 1 < 2 ^ 32)) parts

module _ {V M : Type 0} (value_eq : V → V → Bool) (message_eq : M → M → Bool) (program : Program V M)
    (combining : Option (Combining M)) where
  -- a part was stepped once: it is one superstep further, and where it held its share of a run from which the
  -- round borrows what it needs, it has made that step, sent what the step sends, and the calls are all that the step
  -- needed
  pub record IsDone (round : RoundOf M) (part : PartState V M) (done : Done V M) : Type 0 where
    pub advanced : IsAdvanced part.part_run done.part.part_run
    pub stepped : (job : Job V M) (kept : Option Rows) (rows : Rows) (n p r : ℕ)
        → job.program ≡ program → job.combining ≡ combining → job.aggregators ≡ aggregators_of round.registry
        → HoldsShare job kept rows n p r part → IsStepInput job rows n p r round.logs round.visible
        → IsOldStepInput job kept n p r round.logs round.old_logs round.old_visible
        → HasMadeStep job value_eq message_eq kept rows n p r done.part done.sent 0 done.calls

  -- each of them was, in order
  abbrev pub AreDone : RoundOf M → List (PartState V M) → List (Done V M) → Type 0
  AreDone round parts dones = AllZip (IsDone round) parts dones

module _ {V M : Type 0} (fated : ℕ → ℕ → ℕ → ℕ → Bool) (round : RoundOf M) where
  -- by the fate the worker falls in this round once it has stepped this part
  abbrev pub strikes : PartState V M → Bool
  strikes part = fated round.superstep round.attempt round.worker part.part_run.partition

  -- it falls after none of them
  abbrev pub AreSpared : List (PartState V M) → Type 0
  AreSpared parts = All (λ part. strikes part ≡ false) parts

  -- it falls after one of them
  pub record IsStruck (parts : List (PartState V M)) : Type 0 where
    pub before : List (PartState V M)
    pub part : PartState V M
    pub later : List (PartState V M)
    pub among : parts ≡ before ++ part ∷ later
    pub struck : strikes part ≡ true
