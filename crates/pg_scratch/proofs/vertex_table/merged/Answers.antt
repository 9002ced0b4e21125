use Rattle.std.proofs.Common.{◌≡◌, false, subst, arith}
use Rattle.pg_scratch.specs.VertexTable.{Takes, first_is_below}
use Rattle.pg_scratch.proofs.Merging.{merged_none, merged_more, merged_all}
use Rattle.pg_scratch.proofs.vertex_table.merged.Goals as goal

pub loop-with_inbox-init : goal.loop-with_inbox-init
loop-with_inbox-init g c =
    merged_none (g.P.Computation.program c.args.program.now) c.args.with_inboxes.items c.args.waiting.items _ _ _
    c.requires.waiting c.into_iter-with_inbox-iterator.ensures.into_iter_gives.0 c.from-waiting.ensures.0
    c.in_ok-merged.ensures.items

pub loop-with_inbox-preserved : goal.loop-with_inbox-preserved
loop-with_inbox-preserved g c =
    merged_more (g.P.Computation.program c.args.program.now) _ c.in-Some.with_inbox _ _ _ _ _ _ _ c.loop-with_inbox.invariant c.in-Some.ensures.steps.0
    (subst (λ id. Takes (g.P.Computation.program c.args.program.now) id c.loop-with_inbox.waiting.items
    c.push_below.new.waiting.items c.loop-with_inbox.merged.items c.push_below.new.merged.items) c.id_of-id.ensures
    c.in_ok-push_below.ensures.takes)
    (subst (λ id. first_is_below id c.push_below.new.waiting.items ≡ false) c.id_of-id.ensures c.in_ok-push_below.ensures.rest)
    c.in_ok-push.ensures.items

pub returns : goal.returns
returns g c =
    merged_all (g.P.Computation.program c.args.program.now) _ _ _ _ _ c.loop-with_inbox.invariant
    (omega (arith, c.in-None.ensures.steps.0, c.loop-with_inbox.with_inbox-iterator.rest.ok.0)) c.in_ok-push_rest.ensures
