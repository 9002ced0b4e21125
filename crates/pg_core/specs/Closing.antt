-- What closing a superstep makes of a run over partitions, and what the run gives once it has ended.
use Rattle.std.specs.Prelude.{◌≡◌, ℕ, ◌+◌, ◌↔◌, List, [], ◌∷◌, ◌++◌, length, Option, Some}
use Rattle.std.specs.Option.{unwrap_or}
use Rattle.pg_core_machine.specs.Machine.{after}
use Rattle.pg_core.specs.Progress.{IsRight, Progress}
use Rattle.pg_core.specs.Traces.{RetainedRun, HaveRetained, IsRetainedBy, Traces}
use Rattle.pg_core_machine.specs.declared.event.Closed.{Closed}
use Rattle.pg_core_machine.specs.declared.event.Closed.TheVariants.{Next, Ended}
use Rattle.pg_core_machine.specs.declared.event.Event.TheVariants.{Close}
use Rattle.pg_core.specs.declared.run_totals.RunTotals.{RunTotals}
use Rattle.pg_graph.specs.Rows.{Rows}
use Rattle.pg_model.specs.Job.{Job}
use Rattle.pg_model.specs.Run.{answer, run_length}
use Rattle.pg_model.specs.declared.run.Ending.{Ending}
use Rattle.pg_model.specs.declared.run.Ending.TheVariants.{LimitReached}
use Rattle.pg_model.specs.declared.run.Run.{Run}
use Rattle.pg_model.specs.declared.view.Visible.{Visible}
use Rattle.pg_part.specs.Part.{PartState}

-- the answer of a run with these values, where this was counted and it ended for this reason after so many supersteps
abbrev pub answer_with : {V : Type 0} → List (ℕ × V) → RunTotals → Option Ending → ℕ → Run V
answer_with values run_totals ending supersteps = record {
  values = values;
  aggregates = run_totals.gathered;
  ending = unwrap_or ending LimitReached;
  supersteps = supersteps;
  sent = run_totals.sent;
  dropped = run_totals.dropped;
}

-- an answer and what a run leaves are those of parts that stand at the end of a run of so many supersteps on this
-- graph, and of what all partitions have in common
pub record AreGiven {V M : Type 0} (graph : Rows) (parts : List (Option (PartState V M)))
    (retained_run : RetainedRun V M) (run_totals : RunTotals)
    (ending : Option Ending) (supersteps : ℕ) (run : Run V) (retained : Traces V M) : Type 0 where
  pub answers : run ≡ answer_with retained_run.values run_totals ending supersteps
  pub each : length retained.retained_parts ≡ length parts
  pub retained_parts : HaveRetained supersteps parts (length parts) retained.retained_parts
  pub others : retained ≡ record {
    retained_parts = retained.retained_parts;
    graph = graph;
    retained_run = retained_run;
  }

module _ {P C A V M : Type 0} where
  -- the run has ended with its open superstep, and has counted this
  abbrev pub with_end : Ending → RunTotals → Progress P C A V M → Progress P C A V M
  with_end ending run_totals core = record core {
    state = after core.state (Close Ended);
    history = core.history ++ Close Ended ∷ [];
    run_totals = run_totals;
    ending = Some ending;
  }

  -- the next superstep is open, and this is shown in it
  abbrev pub with_next : Visible → RunTotals → Progress P C A V M → Progress P C A V M
  with_next visible run_totals core = record core {
    state = after core.state (Close Next);
    history = core.history ++ Close Next ∷ [];
    shown = core.shown ++ visible ∷ [];
    run_totals = run_totals;
  }

  -- the open superstep was closed with this answer: the state, what has happened, what was shown and counted, and why
  -- the run ended may be others, and the rest is as it was
  pub record HasClosed (closed : Closed) (before new : Progress P C A V M) : Type 0 where
    pub core_is : new ≡ record before {
      state = after before.state (Close closed);
      history = before.history ++ Close closed ∷ [];
      shown = new.shown;
      run_totals = new.run_totals;
      ending = new.ending;
    }

  -- it is right still, and has ended where the run has no further superstep, and only there
  pub record ClosesRight (job : Job V M) (kept : Option Rows) (closed : Closed)
      (before new : Progress P C A V M) : Type 0 where
    pub right : IsRight job kept new
    pub ends : (closed ≡ Ended) ↔ (before.state.current + 1 ≡ run_length job before.graph)

  -- a core that has ended gives the answer of the run, and all that the run leaves
  pub record IsFinished (job : Job V M) (core : Progress P C A V M) (run : Run V) (retained : Traces V M) : Type 0 where
    pub answers : run ≡ answer job core.graph
    pub leaves : IsRetainedBy job core.graph core.limits.partitions retained
