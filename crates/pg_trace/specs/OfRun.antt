-- A trace that holds a run, and the states of that run.
use Rattle.std.specs.Prelude.{◌≡◌, ℕ, ◌≤◌, true, take, Option}
use Rattle.std.specs.Option.{option_map}
use Rattle.pg_graph.specs.Rows.{HasRisingIds, Rows}
use Rattle.pg_model.specs.Job.{Job}
use Rattle.pg_model.specs.Needed.{with_inbox_at}
use Rattle.pg_model.specs.Run.{configuration}
use Rattle.pg_model.specs.Share.{belongs, records_below, share}
use Rattle.pg_model.specs.declared.configuration.VertexState.{VertexState}
use Rattle.pg_trace.specs.Trace.{Trace}

module _ {V M : Type 0} where
  -- the trace of partition p of n holds the run on these rows up to superstep s; of later supersteps it may hold
  -- anything
  pub record HoldsRun (job : Job V M) (rows : Rows) (n p s : ℕ) (trace : Trace V M) : Type 0 where
    pub rise : HasRisingIds rows
    pub initial : trace.initial ≡ (share job rows n p 0).states
    pub records : take s trace.records ≡ records_below job rows n p s

  -- the state of an id as superstep s of the run begins, if it has one
  abbrev pub run_state : Job V M → Rows → ℕ → ℕ → Option (VertexState V)
  run_state job rows id s = option_map (λ x. x.state) (with_inbox_at id (configuration job rows s).with_inboxes)

  -- of whatever run the trace holds up to s or further, and whatever partition the id belongs to: the run's state
  abbrev pub IsOfRun : Trace V M → ℕ → ℕ → Option (VertexState V) → Type 0
  IsOfRun trace id s state =
      (job : Job V M) (rows : Rows) (n p r : ℕ) → HoldsRun job rows n p r trace → belongs n p id ≡ true → s ≤ r
      → state ≡ run_state job rows id s
