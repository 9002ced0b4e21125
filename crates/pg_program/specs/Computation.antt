-- What one execution of a program does.
use Rattle.std.specs.Prelude.{◌≡◌, ◌+◌, List, ◌++◌}
use Rattle.pg_model.specs.Job.{Program}
use Rattle.pg_model.specs.Superstep.{state_after, capped}
use Rattle.pg_model.specs.declared.configuration.VertexState.{VertexState}
use Rattle.pg_model.specs.declared.record.Record.{Record}
use Rattle.pg_program.specs.Context.{Context}

module _ {V M : Type 0} where
  -- the step of a program on what an execution reads
  abbrev pub step_on : Program V M → VertexState V → List M → Context M → Record V M
  step_on program vertex inbox cx =
      program.step (record {
        view = cx.view;
        id = vertex.id;
        value = vertex.value;
        edges = vertex.edges;
        inbox = inbox;
      })

  -- the vertex becomes what the step says, what it sends and contributes is added in its order, and one call is counted
  pub record Executes (program : Program V M) (vertex vertex' : VertexState V) (inbox : List M)
      (cx cx' : Context M) : Type 0 where
    pub vertex_is : vertex' ≡ state_after vertex (step_on program vertex inbox cx)
    pub context_is :
        cx' ≡ record {
          view = cx.view;
          writes = cx.writes;
          sent = cx.sent ++ (step_on program vertex inbox cx).sent;
          contributed = cx.contributed ++ (step_on program vertex inbox cx).contributed;
          calls = capped (cx.calls + 1);
        }
