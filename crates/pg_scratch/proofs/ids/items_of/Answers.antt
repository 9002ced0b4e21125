use Rattle.pg_scratch.proofs.Mapped.{mapped_all, mapped_more}
use Rattle.pg_scratch.proofs.ids.items_of.Goals as goal

pub loop-with_inbox-preserved : goal.loop-with_inbox-preserved
loop-with_inbox-preserved g c =
    mapped_more (λ x. x.state.id) c.args.with_inboxes.now c.loop-with_inbox.with_inbox-index c.with_inbox-item.result _ _
    c.loop-with_inbox-test.true c.with_inbox-item.is c.loop-with_inbox.invariant c.in_ok-push.ensures.items

pub returns : goal.returns
returns g c =
    mapped_all (λ x. x.state.id) c.args.with_inboxes.now c.loop-with_inbox.with_inbox-index _ c.loop-with_inbox-test.false
    c.loop-with_inbox.invariant
