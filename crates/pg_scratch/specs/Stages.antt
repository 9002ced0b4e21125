-- The stages of a superstep, and a run between two supersteps.
use Rattle.std.specs.Prelude.{◌≡◌, ℕ, ◌+◌, ◌≤◌, true, Bool, List, map, length}
use Rattle.std.specs.List.{count_by}
use Rattle.std.specs.List.Sorted.{IsStrictlySortedBy}
use Rattle.std.specs.Ordering.{nat_cmp}
use Rattle.pg_model.specs.InOrder.{IsInOrder}
use Rattle.pg_model.specs.Job.{Program, Job}
use Rattle.pg_model.specs.Superstep.{is_active, ids, edges_of, totals_of, present, sends, contributions, visible, next}
use Rattle.pg_model.specs.Superstep.{capped}
use Rattle.pg_model.specs.declared.view.View.{View}
use Rattle.pg_global.specs.Master.{Master, has_places}
use Rattle.pg_global.specs.declared.registry.Registration.{Registration}
use Rattle.pg_scratch.specs.Pass.{ran}
use Rattle.pg_scratch.specs.Worklist.{ListsActive}
use Rattle.pg_scratch.specs.declared.vertex_table.VertexTable.{VertexTable}
use Rattle.pg_scratch.specs.declared.superstep.Executed.{Executed}
use Rattle.pg_scratch.specs.declared.superstep.Progress.{Progress}

-- the registrations are the master's, few enough, and have each declared place
pub record IsPrepared {V M : Type 0} (program : Program V M) (master : Master)
    (registrations : List Registration) : Type 0 where
  pub registered : registrations ≡ map (λ e. e.1) master.registrations
  pub few : length registrations ≤ 16
  pub declared : has_places program.declared (length registrations) ≡ true

-- a run between two supersteps, with so many aggregators: ids, places and edges are those of its configuration
pub record IsReady {V M : Type 0} (places : ℕ) (p : Progress V M) : Type 0 where
  pub in_order : IsInOrder p.configuration
  pub ids_are : p.ids ≡ ids p.configuration.with_inboxes
  pub lists : ListsActive p.configuration.with_inboxes p.work.items
  pub work_rises : IsStrictlySortedBy nat_cmp p.work.items
  pub edges : p.edges ≡ (totals_of p.configuration).edges
  pub gathered : length p.configuration.gathered ≡ places

-- the vertices were executed, seeing this view
pub record HasExecuted {V M : Type 0} (program : Program V M) (view : View) (first : VertexTable V M) (calls : ℕ)
    (p : Executed V M) : Type 0 where
  pub with_inboxes : p.vertex_table.with_inboxes.items ≡ map (ran program view) first.with_inboxes.items
  pub ids_stay : p.vertex_table.ids ≡ first.ids
  pub lists : ListsActive p.vertex_table.with_inboxes.items p.vertex_table.work.items
  pub sent : p.sent ≡ sends program view first.with_inboxes.items
  pub contributed : p.contributed ≡ contributions program view first.with_inboxes.items
  pub edges : p.edges ≡ capped (edges_of p.vertex_table.with_inboxes.items)
  pub counted : p.meter ≡ capped (calls + count_by is_active first.with_inboxes.items)

-- a superstep was executed, and each execution counted
pub record HasStepped {V M : Type 0} (job : Job V M) (places s : ℕ) (before after : Progress V M)
    (halt : Bool) : Type 0 where
  pub configuration : after.configuration ≡ next job s before.configuration
  pub halts : halt ≡ (visible job s before.configuration).halt
  pub ready : IsReady places after
  pub counted : after.meter ≡ capped (before.meter + count_by is_active (present job.program before.configuration))
