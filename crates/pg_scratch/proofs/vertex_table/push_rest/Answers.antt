use Rattle.std.proofs.Common.{arith}
use Rattle.pg_model.specs.Superstep.{made}
use Rattle.pg_scratch.proofs.Mapped.{made_all, made_more}
use Rattle.pg_scratch.proofs.vertex_table.push_rest.Goals as goal

pub loop-id-preserved : goal.loop-id-preserved
loop-id-preserved g c =
    made_more (made (g.P.Computation.program c.args.program.now)) (c.in-Some.id, c.in-Some.inbox) c.in_ok-made.field-0
    c.next.new.self.rest.items c.loop-id.id-iterator.rest.items c.loop-id.merged.items _ _ c.in-Some.ensures.steps.0 c.in_ok-made.ensures
    c.in_ok-push.ensures.items c.loop-id.invariant

pub returns : goal.returns
returns g c =
    made_all (made (g.P.Computation.program c.args.program.now)) c.loop-id.id-iterator.rest.items c.loop-id.merged.items _
    (omega (arith, c.in-None.ensures.steps.0, c.loop-id.id-iterator.rest.ok.0)) c.loop-id.invariant
