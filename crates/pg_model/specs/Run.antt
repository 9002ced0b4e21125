-- A run: supersteps 0, 1, 2 and so on until one ends it, and its answer (Pregel, section 2). The configurations go
-- on beyond the end of the run; what stands there means nothing.
use Rattle.std.specs.Prelude.{ℕ, zero, suc, ◌+◌, ◌-◌, false, List, [], map, Option, is_some, cond}
use Rattle.std.specs.Option.{unwrap_or}
use Rattle.std.specs.List.{count_by}
use Rattle.pg_graph.specs.Rows.{Rows}
use Rattle.pg_graph.specs.Handed.{Row}
use Rattle.pg_model.specs.Job.{Program, Job}
use Rattle.pg_model.specs.Superstep.{is_active, present, visible, view_in, next, ending}
use Rattle.pg_model.specs.declared.configuration.VertexWithInbox.{VertexWithInbox}
use Rattle.pg_model.specs.declared.configuration.Configuration.{Configuration}
use Rattle.pg_model.specs.declared.run.Ending.{Ending}
use Rattle.pg_model.specs.declared.run.Ending.TheVariants.{LimitReached}
use Rattle.pg_model.specs.declared.run.Run.{Run}
use Rattle.pg_model.specs.declared.view.View.{View}
use Rattle.pg_model.specs.declared.view.Visible.{Visible}

-- a vertex as the run begins: the program's initial value, the row's edges, not halted, nothing received
abbrev pub beginning : {V M : Type 0} → Program V M → ℕ × Row → VertexWithInbox V M
beginning program row = record {
  state = record { id = row.0; value = program.initial row.0 row.1.input; edges = row.1.edges; halted = false };
  inbox = [];
}

module _ {V M : Type 0} (job : Job V M) where
  -- what stands at the start of superstep 0
  unfoldable pub first : Rows → Configuration V M
  first rows = record {
    with_inboxes = map (beginning job.program) rows;
    waiting = [];
    gathered = map (λ a. a.initial) job.aggregators;
    sent = 0;
    dropped = 0;
  }

  module _ (rows : Rows) where
    -- what stands at the start of superstep s
    unfoldable pub configuration : ℕ → Configuration V M
    configuration zero = first rows
    configuration (suc s) = next job s (configuration s)

    -- the vertices of superstep s, and what they see in it
    abbrev pub present_at : ℕ → List (VertexWithInbox V M)
    present_at s = present job.program (configuration s)

    abbrev pub visible_at : ℕ → Visible
    visible_at s = visible job s (configuration s)

    abbrev pub view_at : ℕ → View
    view_at s = view_in job s (configuration s)

    -- the ending that the test after superstep s finds, if any
    abbrev pub ending_after : ℕ → Option Ending
    ending_after s = ending job s (configuration s) (configuration (s + 1))

    -- the first number of supersteps above s, at most `remaining` more, with which the run ends
    unfoldable pub length_from : ℕ → ℕ → ℕ
    length_from zero s = s
    length_from (suc remaining) s = cond (is_some (ending_after s)) (s + 1) (length_from remaining (s + 1))

    -- how many supersteps are executed
    abbrev pub run_length : ℕ
    run_length = length_from job.limit 0

    -- how many vertices are executed in a superstep that begins with these
    abbrev pub executed : List (VertexWithInbox V M) → ℕ
    executed xs = count_by is_active xs

    -- how many executions there are in the supersteps below s
    unfoldable pub executions_below : ℕ → ℕ
    executions_below zero = 0
    executions_below (suc s) = executions_below s + executed (present_at s)

    -- how many executions the run has
    abbrev pub executions : ℕ
    executions = executions_below run_length

    abbrev pub values_of : Configuration V M → List (ℕ × V)
    values_of c = map (λ x. (x.state.id, x.state.value)) c.with_inboxes

    -- the answer of the run
    unfoldable pub answer : Run V
    answer =
        let last : Configuration V M = configuration run_length in
        record {
          values = values_of last;
          aggregates = last.gathered;
          ending = unwrap_or (ending_after (run_length - 1)) LimitReached;
          supersteps = run_length;
          sent = last.sent;
          dropped = last.dropped;
        }
