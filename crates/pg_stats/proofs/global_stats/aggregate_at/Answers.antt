use Rattle.std.proofs.Common.{◌≡◌, ℤ, ◌∙◌, ap₂, arith, inl, inr, w64, to_z, of_z}
use Rattle.std.proofs.lemmas.Int.{to_z-of_z}
use Rattle.pg_global.specs.Registry.{aggregating_of}
use Rattle.pg_stats.proofs.Contributed.{gathered_at_place, gathered_nowhere}
use Rattle.pg_stats.proofs.global_stats.aggregate_at.Goals.{else-place-len-via-then-place-len+else-place-len-2, else-place-len-via-else-place-len}
use Rattle.pg_stats.proofs.global_stats.aggregate_at.Goals as goal

pub returns-then-place-len-2 : goal.returns-then-place-len-2
returns-then-place-len-2 c =
    let x : ℤ = c.index.result.now in
    let y : ℤ = c.aggregate.result in
    let x_kept : to_z w64 (of_z w64 x) ≡ x = grind (arith, to_z-of_z) in
    let y_kept : to_z w64 (of_z w64 y) ≡ y = grind (arith, to_z-of_z) in
    let value_kept : to_z w64 (of_z w64 c.args.value) ≡ c.args.value = grind (arith, to_z-of_z) in
    gathered_at_place c.args.registry.now c.args.place c.registration-aggregator.result c.args.gathered.now.items x (to_z w64 (of_z w64 y)) c.args.value
    c.registration-aggregator.ensures c.index.ensures
    (y_kept ∙ (c.aggregate.ensures ∙ ap₂ (aggregating_of c.registration-aggregator.result).aggregate x_kept value_kept))
    (omega (arith, c.if-place-len-2.true, c.len-then-place-len.ensures))

pub returns-else-place-len : goal.returns-else-place-len
returns-else-place-len c =
    gathered_nowhere c.args.registry.now c.args.place c.args.gathered.now.items c.args.value
    (elim c.else-place-len.branch [
      | else-place-len-via-then-place-len+else-place-len-2 w ↦ inr (omega (arith, w.if-place-len-2.false, w.len-then-place-len.ensures))
      | else-place-len-via-else-place-len w ↦ inl (omega (arith, w.if-place-len.false, c.len.ensures.value))
    ])
