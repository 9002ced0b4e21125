-- A superstep's executions, one after another.
use Rattle.std.specs.Prelude.{ℕ, ◌+◌, cond, List, [], ◌∷◌, ◌++◌}
use Rattle.std.specs.List.{count_by}
use Rattle.pg_model.specs.Job.{Program}
use Rattle.pg_model.specs.Superstep.{is_active, outcome, state_after, sends, contributions, capped}
use Rattle.pg_model.specs.declared.configuration.VertexWithInbox.{VertexWithInbox}
use Rattle.pg_model.specs.declared.view.View.{View}
use Rattle.pg_program.specs.Context.{Context}

module _ {V M : Type 0} (program : Program V M) where
  -- a vertex after its execution, if it is active, with nothing received since
  abbrev pub ran : View → VertexWithInbox V M → VertexWithInbox V M
  ran view x = record { state = state_after x.state (outcome program view x); inbox = [] }

  -- the context after the execution of a vertex, if it is active
  unfoldable pub context_after : Context M → VertexWithInbox V M → Context M
  context_after cx x = record {
    view = cx.view;
    writes = cx.writes;
    sent = cx.sent ++ (outcome program cx.view x).sent;
    contributed = cx.contributed ++ (outcome program cx.view x).contributed;
    calls = capped (cx.calls + cond (is_active x) 1 0);
  }

  -- the context after the executions of these vertices
  unfoldable pub ran_context : Context M → List (VertexWithInbox V M) → Context M
  ran_context cx xs = record {
    view = cx.view;
    writes = cx.writes;
    sent = cx.sent ++ sends program cx.view xs;
    contributed = cx.contributed ++ contributions program cx.view xs;
    calls = capped (cx.calls + count_by is_active xs);
  }

-- a list of places, and one more where the vertex there isn't halted
abbrev pub with_unhalted : {V M : Type 0} → List ℕ → ℕ → VertexWithInbox V M → List ℕ
with_unhalted places place x = cond x.state.halted places (places ++ place ∷ [])
