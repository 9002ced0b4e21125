use Rattle.pg_scratch.proofs.Mapped.{mapped_all, mapped_more}
use Rattle.pg_scratch.proofs.undeliverable.each_target.Goals as goal

pub loop-target-preserved : goal.loop-target-preserved
loop-target-preserved g c =
    mapped_more (λ m. m.0) c.args.sent.now c.loop-target.target-index c.loop-target-item.result _ _ c.loop-target-test.true
    c.loop-target-item.is c.loop-target.invariant c.in_ok-push.ensures.items

pub returns : goal.returns
returns g c =
    mapped_all (λ m. m.0) c.args.sent.now c.loop-target.target-index _ c.loop-target-test.false c.loop-target.invariant
