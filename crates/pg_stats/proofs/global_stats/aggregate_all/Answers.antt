use Rattle.std.proofs.Common.{◌≡◌, ℤ, arith, get_or, pos, w64, to_z, of_z}
use Rattle.std.proofs.lemmas.Int.{to_z-of_z}
use Rattle.pg_stats.proofs.Contributed.{gathered_more}
use Rattle.pg_stats.proofs.global_stats.aggregate_all.Goals as goal

pub loop-place-preserved : goal.loop-place-preserved
loop-place-preserved c =
    let value : ℤ = get_or c.args.values.now c.loop-place.place (pos 0) in
    let kept : to_z w64 (of_z w64 value) ≡ value = grind (arith, to_z-of_z) in
    gathered_more c.args.registry.now c.args.values.now c.loop-place.gathered.items c.aggregate_at.new.gathered.items
    c.args.gathered.now.items c.loop-place.place (to_z w64 (of_z w64 value)) (pos 0)
    c.loop-place-test.true kept c.loop-place.invariant c.aggregate_at.ensures
