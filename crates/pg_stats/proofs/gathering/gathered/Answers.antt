use Rattle.std.proofs.Common.{◌≡◌, ℤ, arith, w64, to_z, of_z}
use Rattle.std.proofs.lemmas.Int.{to_z-of_z}
use Rattle.pg_stats.proofs.Afresh.{afresh_more}
use Rattle.pg_stats.proofs.gathering.gathered.Goals as goal

pub loop-place-preserved : goal.loop-place-preserved
loop-place-preserved c =
    let value : ℤ = c.in_ok-gathered_at.field-0 in
    let kept : to_z w64 (of_z w64 value) ≡ value = grind (arith, to_z-of_z) in
    afresh_more c.args.registry.now c.loop-place.place c.registration-kind.result c.registration-kind.ensures c.args.contributions.now
    c.loop-place.gathered value
    (to_z w64 (of_z w64 value)) c.push.new.self c.loop-place.invariant c.in_ok-gathered_at.ensures kept c.in_ok-push.ensures.ok
