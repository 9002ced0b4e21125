-- The values of a run's vertices, as its partitions have them.
use Rattle.std.specs.Prelude.{◌≡◌, ℕ, ◌<◌, ◌%◌, ◌-◌, Bool, false, List, [], ◌∷◌, ◌++◌, map, slice_index_or, Option}
use Rattle.std.specs.Prelude.{None, Some, is_some}
use Rattle.std.specs.List.{flat_map, range_with_len}
use Rattle.std.specs.Map.{keys_of}
use Rattle.std.specs.Option.{option_and_then, option_map}
use Rattle.pg_part.specs.PartRun.{diverged}
use Rattle.pg_graph.specs.Rows.{Rows}
use Rattle.pg_graph.specs.declared.missing.Missing.{Missing}
use Rattle.pg_graph.specs.declared.missing.Missing.TheVariants.{Drop, Create}
use Rattle.pg_model.specs.Job.{Job}
use Rattle.pg_model.specs.Run.{configuration, run_length, values_of}
use Rattle.pg_model.specs.declared.configuration.VertexState.{VertexState}
use Rattle.pg_part.specs.Part.{HoldsShare, PartState}
use Rattle.pg_trace.specs.OfRun.{HoldsRun}
use Rattle.pg_trace.specs.Trace.{Trace, records_of, state_at}

-- the values with which the vertices of an old run ended, and how many supersteps it had
pub record Ended (V : Type 0) : Type 0 where
  pub values : List (ℕ × V)
  pub supersteps : ℕ

-- an id with its value, where it has a state
abbrev pub valued : {V : Type 0} → ℕ → Option (VertexState V) → List (ℕ × V)
valued id None = []
valued id (Some x) = (id, x.value) ∷ []

module _ {V M : Type 0} where
  -- the ids that ran in the supersteps from one on and before another
  abbrev pub ran_between : ℕ → ℕ → Trace V M → List ℕ
  ran_between from to trace = flat_map (λ t. keys_of (records_of t trace)) (range_with_len from (to - from))

  -- ids among which are all that have a state as superstep s begins: those with which the partition began and, where
  -- messages make vertices, those that ran before
  abbrev pub ids_before : Missing → ℕ → Trace V M → List ℕ
  ids_before Drop s trace = map (λ x. x.id) trace.initial
  ids_before Create s trace = map (λ x. x.id) trace.initial ++ ran_between 0 s trace

  -- those of a partition that is here
  abbrev pub ids_of_part : Missing → ℕ → Option (PartState V M) → List ℕ
  ids_of_part missing s None = []
  ids_of_part missing s (Some part) = ids_before missing s part.part_run.trace

  -- the traces of the parts that are here
  abbrev pub traces_of : List (Option (PartState V M)) → List (Option (Trace V M))
  traces_of parts = map (option_map (λ part. part.part_run.trace)) parts

  -- the state of an id as the trace of its partition, of n, has it
  abbrev pub state_by : ℕ → ℕ → List (Option (Trace V M)) → ℕ → Option (VertexState V)
  state_by n s traces id = option_and_then (λ trace. state_at id s trace) (slice_index_or traces (id % n) None)

  -- the ids of a partition, at the end s of a run, outside of which all ended as in the old run, which has as many
  -- supersteps as `old`: those that may differ and, where the old run went on, those that ran there
  abbrev pub apart_in : ℕ → ℕ → Option (PartState V M) → List ℕ
  apart_in s old None = []
  apart_in s old (Some part) = diverged part.part_run ++ ran_between s old part.part_run.trace

  -- the changes that these ids make of values: each has that of its state, or none
  abbrev pub new_values : ℕ → ℕ → List (Option (Trace V M)) → List ℕ → List (ℕ × Option V)
  new_values n s traces ids = map (λ id. (id, option_map (λ x. x.value) (state_by n s traces id))) ids

  -- the state of an id as its partition, of n, has it
  abbrev pub state_in : ℕ → ℕ → List (Option (PartState V M)) → ℕ → Option (VertexState V)
  state_in n s parts id = option_and_then (λ part. state_at id s part.part_run.trace)
      (slice_index_or parts (id % n) None)

  -- a part that is here has the trace of partition p of n up to superstep s
  abbrev pub HasShare : Job V M → Rows → ℕ → ℕ → ℕ → Option (PartState V M) → Type 0
  HasShare job rows n p s None = ⊥
  HasShare job rows n p s (Some part) = HoldsRun job rows n p s part.part_run.trace

  -- all n of them do
  pub record HaveShares (job : Job V M) (rows : Rows) (n s : ℕ) (parts : List (Option (PartState V M))) : Type 0 where
    pub shares : (p : ℕ) → p < n → HasShare job rows n p s (slice_index_or parts p None)
    pub some : 0 < n

  -- its part is here, and has come to the end of the run
  abbrev pub HasEnded : Job V M → Option Rows → Rows → ℕ → ℕ → Option (PartState V M) → Type 0
  HasEnded job kept rows n p None = ⊥
  HasEnded job kept rows n p (Some part) = HoldsShare job kept rows n p (run_length job rows) part

  -- all n of them have come to the end s of the run, each against the run on the rows that are kept for it, if any
  pub record HaveEnded (job : Job V M) (keeps : ℕ → Option Rows) (rows : Rows) (n s : ℕ)
      (parts : List (Option (PartState V M))) : Type 0 where
    pub parts_are : (p : ℕ) → p < n → HasEnded job (keeps p) rows n p (slice_index_or parts p None)
    pub some : 0 < n
    pub last : s ≡ run_length job rows

  -- these are the values of the answer of a run, after as many supersteps as it has
  pub record AreAnswered (job : Job V M) (rows : Rows) (ended : Ended V) : Type 0 where
    pub values_are : ended.values ≡ values_of job rows (configuration job rows (run_length job rows))
    pub supersteps_are : ended.supersteps ≡ run_length job rows

  -- this is how a run ended that is kept for each of n partitions
  pub record IsEndForAll (job : Job V M) (keeps : ℕ → Option Rows) (n : ℕ) (ended : Ended V) : Type 0 where
    pub old : Rows
    pub for_all : (p : ℕ) → p < n → keeps p ≡ Some old
    pub answered : AreAnswered job old ended

  -- what is borrowed of an old run's end, if anything, is that of one kept for each partition
  abbrev pub KeepsEnd : Job V M → (ℕ → Option Rows) → ℕ → Option (Ended V) → Type 0
  KeepsEnd job keeps n None = Unit {0}
  KeepsEnd job keeps n (Some ended) = IsEndForAll job keeps n ended

  -- a part that is here has the trace of an old run
  abbrev pub is_warm : Option (PartState V M) → Bool
  is_warm None = false
  is_warm (Some part) = is_some part.part_run.kept
