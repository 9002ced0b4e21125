use Rattle.std.proofs.Common.{ℕ, ◌+◌, ◌≤◌, List, length, ap, sym, ◌∙◌, refl, subst}
use Rattle.std.specs.List.Sorted.{IsStrictlySortedBy}
use Rattle.std.specs.Ordering.{nat_cmp}
use Rattle.std.proofs.lemmas.List.{length-map}
use Rattle.pg_model.specs.InOrder.{AreWaiting}
use Rattle.pg_model.specs.Superstep.{capped, edges_of, ids, visible_in, view_of, gathered_from, with_made}
use Rattle.pg_model.specs.declared.view.Declared.{Declared}
use Rattle.pg_model.specs.declared.configuration.VertexWithInbox.{VertexWithInbox}
use Rattle.pg_global.specs.Master.{job_of}
use Rattle.pg_scratch.specs.Worklist.{ListsActive}
use Rattle.pg_scratch.proofs.Edges.{edges-made}
use Rattle.pg_scratch.proofs.Stepping.{shown_in}
use Rattle.pg_scratch.proofs.Whole.{executed_ids, executed_empty, aggregators-registered, as_many-registered, stepped}
use Rattle.pg_scratch.proofs.superstep.superstep.Goals as goal

pub with_waiting-requires-clause-waiting : goal.with_waiting-requires-clause-waiting
with_waiting-requires-clause-waiting g c =
    λ _ _. subst (λ (l : List (VertexWithInbox g.row.P-Value.Denot g.row.P-Message.Denot)). AreWaiting
    {M = g.row.P-Message.Denot} (ids l) c.args.progress.configuration.waiting) (sym c.into_vec-with_inboxes.ensures)
    c.requires.ready.in_order.waiting

pub execute-requires-clause-shown : goal.execute-requires-clause-shown
execute-requires-clause-shown g c =
    λ _ _. shown_in (g.P.Computation.program c.args.runner.now.program.now) c.declared.result c.args.superstep
    (length c.args.runner.now.registrations.now) c.in_ok-visible.visible c.in_ok-view.view
    c.requires.prepared.declared (c.in_ok-visible.ensures.places ∙ c.requires.ready.gathered) c.declared.ensures
    c.in_ok-view.ensures

pub execute-requires-clause-edges : goal.execute-requires-clause-edges
execute-requires-clause-edges g c =
    let program = g.P.Computation.program c.args.runner.now.program.now in
    λ _ _. c.requires.ready.edges
    ∙ ap capped (sym (edges-made program c.args.progress.configuration.with_inboxes c.args.progress.configuration.waiting)
    ∙ ap (λ (l : List (VertexWithInbox g.row.P-Value.Denot g.row.P-Message.Denot)). edges_of
    (with_made program l c.args.progress.configuration.waiting)) (sym c.into_vec-with_inboxes.ensures)
    ∙ ap (λ (l : List (VertexWithInbox g.row.P-Value.Denot g.row.P-Message.Denot)). edges_of l) (sym c.in_ok-vertex_table.ensures.with_inboxes))

pub receive-requires-clause-ids : goal.receive-requires-clause-ids
receive-requires-clause-ids g c =
    λ _ _. executed_ids (g.P.Computation.program c.args.runner.now.program.now) c.in_ok-view.view c.in_ok-vertex_table.vertex_table
    c.args.progress.meter c.in_ok-vertex_table-2.field-0 c.in_ok-vertex_table-2.ensures c.in_ok-vertex_table.ensures.in_place

pub receive-requires-clause-empty : goal.receive-requires-clause-empty
receive-requires-clause-empty g c =
    λ _ _. executed_empty (g.P.Computation.program c.args.runner.now.program.now) c.in_ok-view.view
    c.in_ok-vertex_table.vertex_table c.args.progress.meter c.in_ok-vertex_table-2.field-0 c.in_ok-vertex_table-2.ensures

pub returns : goal.returns
returns g c =
    let program = g.P.Computation.program c.args.runner.now.program.now in
    let combining = g.C.MessageCombiner.combining c.args.runner.now.combiner.now in
    let master = g.M.MasterCompute.master c.args.runner.now.master.now in
    let before = c.args.progress.configuration in
    let many = as_many-registered master c.args.runner.now.registrations.now c.requires.prepared.registered in
    stepped (job_of program combining master c.args.runner.now.missing c.args.runner.now.limit)
    (length c.args.runner.now.registrations.now) c.args.superstep c.args.progress _
    (record {
      shown = c.in_ok-visible.visible;
      view = c.in_ok-view.view;
      vertex_table = c.in_ok-vertex_table.vertex_table;
      executed = c.in_ok-vertex_table-2.field-0;
      gathered = c.in_ok-gathered.gathered;
      received = c.in_ok-vertex_table-3.field-0;
    })
    (record {
      shown_is = c.in_ok-visible.ensures.value
          ∙ (λ i. visible_in master.deciding (record {
            vertices =
                c.len-vertices.ensures i;
            edges = c.requires.ready.edges i;
          }) c.args.superstep before.gathered);
      shown_places = c.in_ok-visible.ensures.places;
      view_is = c.in_ok-view.ensures ∙ ap (λ (d : Declared). view_of d c.args.superstep c.in_ok-visible.visible) c.declared.ensures;
      vertex_table_is = c.in_ok-vertex_table.ensures.with_inboxes
          ∙ ap (λ (l : List (VertexWithInbox g.row.P-Value.Denot g.row.P-Message.Denot)). with_made program l before.waiting) c.into_vec-with_inboxes.ensures;
      in_place = c.in_ok-vertex_table.ensures.in_place;
      executes = c.in_ok-vertex_table-2.ensures;
      gathered_is = c.in_ok-gathered.ensures
          ∙ (λ i. gathered_from 0 (aggregators-registered master c.args.runner.now.registrations.now
          c.requires.prepared.registered i) (c.as_slice.ensures i) (c.as_slice-2.ensures i));
      receives = c.in_ok-vertex_table-3.ensures;
      with_inboxes = c.from_vec.ensures;
      waiting = refl;
      gathered = refl;
      sent = c.saturating_add-sent.ensures ∙ ap (λ (n : ℕ). capped (before.sent + n)) c.len.ensures;
      dropped = c.saturating_add.ensures;
      ids_are = refl;
      work_is = refl;
      edges_are = refl;
      meter_is = refl;
    })
    c.in_ok-visible.visible.halt refl many c.requires.ready

pub visible_in-requires-after_bounds : goal.visible_in-requires-after_bounds
visible_in-requires-after_bounds g c κs lives =
    let master = g.M.MasterCompute.master c.args.runner.now.master.now in
    c.requires.ready.gathered ∙ ap length c.requires.prepared.registered ∙ length-map master.registrations (λ e. e.1)

pub view_of-requires : goal.view_of-requires
view_of-requires g c =
    subst (λ n. n ≤ 16) (sym (c.in_ok-visible.ensures.places ∙ c.requires.ready.gathered)) c.requires.prepared.few

pub with_waiting-requires-clause-in_place : goal.with_waiting-requires-clause-in_place
with_waiting-requires-clause-in_place g c =
    let ready = c.requires.ready in
    let with_inboxes = sym c.into_vec-with_inboxes.ensures in
    let work = c.args.progress.work.items in
    λ _ _. record {
      ids_are = ready.ids_are ∙ ap (λ (l : List (VertexWithInbox g.row.P-Value.Denot g.row.P-Message.Denot)). ids l) with_inboxes;
      ids_rise = subst (IsStrictlySortedBy nat_cmp) (sym ready.ids_are) ready.in_order.with_inboxes;
      lists = subst (λ (l : List (VertexWithInbox g.row.P-Value.Denot g.row.P-Message.Denot)). ListsActive l work) with_inboxes ready.lists;
      in_order = ready.work_rises;
    }

pub execute-requires-clause-in_place : goal.execute-requires-clause-in_place
execute-requires-clause-in_place g c = λ _ _. c.in_ok-vertex_table.ensures.in_place

pub execute-requires-clause-fits : goal.execute-requires-clause-fits
execute-requires-clause-fits g c = λ _ _. c.requires.fits

pub gather_all-requires : goal.gather_all-requires
gather_all-requires g c = sym (ap length c.as_slice.ensures ∙ c.in_ok-visible.ensures.places ∙ c.requires.ready.gathered)

pub receive-requires-clause-rising : goal.receive-requires-clause-rising
receive-requires-clause-rising g c =
    λ _ _. subst (IsStrictlySortedBy nat_cmp) (sym c.in_ok-vertex_table-2.ensures.ids_stay) c.in_ok-vertex_table.ensures.in_place.ids_rise

pub receive-requires-clause-lists : goal.receive-requires-clause-lists
receive-requires-clause-lists g c = λ _ _. c.in_ok-vertex_table-2.ensures.lists
