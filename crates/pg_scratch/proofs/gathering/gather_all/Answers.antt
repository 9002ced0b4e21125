use Rattle.std.proofs.Common.{◌∙◌}
use Rattle.pg_scratch.proofs.Contributing.{gathered-next, gathered-all}
use Rattle.pg_scratch.proofs.gathering.gather_all.Goals as goal

pub loop-place-preserved : goal.loop-place-preserved
loop-place-preserved c =
    gathered-next c.args.registrations.now c.args.visible.now c.args.contributed.now c.requires
    c.loop-place.gathered.items c.push_gathered.new.gathered.items c.loop-place.place _ _ c.loop-place-test.true
    c.in_ok-push_gathered.ensures c.loop-place.invariant

pub returns : goal.returns
returns c =
    c.from_vec.ensures
    ∙ gathered-all c.args.registrations.now c.args.visible.now c.args.contributed.now c.requires
    c.loop-place.gathered.items c.loop-place.place c.loop-place-test.false c.loop-place.invariant
