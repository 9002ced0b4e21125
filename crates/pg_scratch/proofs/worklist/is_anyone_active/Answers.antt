use Rattle.pg_model.proofs.LawsListed.{has_id-get_or}
use Rattle.pg_scratch.proofs.Anyone.{anyone_active, nobody_active}
use Rattle.pg_scratch.proofs.worklist.is_anyone_active.Goals as goal

pub is_active_at-requires : goal.is_active_at-requires
is_active_at-requires g c = c.requires.within _ (has_id-get_or c.args.work.now c.loop-place.place-index 0 c.loop-place-test.true)

pub returns-then-is_active_at : goal.returns-then-is_active_at
returns-then-is_active_at g c =
    anyone_active c.args.with_inboxes.now c.args.work.now c.loop-place.place-index c.is_active_at.result c.requires
    c.loop-place-test.true c.if-is_active_at.true c.is_active_at.ensures

pub returns : goal.returns
returns g c =
    nobody_active c.args.with_inboxes.now c.args.work.now c.loop-place.place-index c.requires c.loop-place-test.false c.loop-place.invariant
