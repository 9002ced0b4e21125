use Rattle.std.proofs.Common.{ap, ◌∙◌, map, refl}
use Rattle.pg_model.specs.Superstep.{capped, edges_of}
use Rattle.pg_program.specs.Context.{Context}
use Rattle.pg_scratch.specs.Pass.{ran}
use Rattle.pg_scratch.proofs.Whole.{context_is}
use Rattle.pg_scratch.proofs.superstep.execute.Goals as goal

pub returns : goal.returns
returns g c =
    let program = g.P.Computation.program c.args.program.now in
    let context =
    context_is program c.args.view c.declared.result.writes c.args.meter c.args.vertex_table.with_inboxes.items
    c.with_room-cx.result c.execute_all.new.cx c.with_room-cx.ensures c.in_ok-found.ensures.context in
    record {
      with_inboxes =
          c.in_ok-found.ensures.with_inboxes
          ∙ ap (λ (x : Context g.row.P-Message.Denot). map (ran program x.view) c.args.vertex_table.with_inboxes.items)
          c.with_room-cx.ensures;
      ids_stay = refl;
      lists = c.in_ok-found.ensures.lists;
      sent = c.into_parts-sent.ensures.sent ∙ ap (λ (x : Context g.row.P-Message.Denot). x.sent) context;
      contributed = c.into_parts-sent.ensures.contributed ∙ ap (λ (x : Context g.row.P-Message.Denot). x.contributed) context;
      edges = c.capped_total-edges.ensures ∙ ap (λ l. capped (edges_of l)) c.as_slice-2.ensures.value;
      counted = c.into_parts-sent.ensures.calls ∙ ap (λ (x : Context g.row.P-Message.Denot). x.calls) context;
    }
