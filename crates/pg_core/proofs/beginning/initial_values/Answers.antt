use Rattle.std.proofs.Common.{◌≡◌, ℤ, ◌∙◌, arith, w64, to_z, of_z}
use Rattle.std.proofs.lemmas.Int.{to_z-of_z}
use Rattle.pg_core.proofs.Opening.{made_more}
use Rattle.pg_global.specs.Registry.{aggregating_of}
use Rattle.pg_core.proofs.beginning.initial_values.Goals as goal

pub loop-place-preserved : goal.loop-place-preserved
loop-place-preserved c =
    let value : ℤ = c.initial_value.result in
    let kept : to_z w64 (of_z w64 value) ≡ value = grind (arith, to_z-of_z) in
    made_more (λ e. e.1) (λ r. (aggregating_of r).initial) c.args.registry.now c.loop-place.place c.registration.result
    (to_z w64 (of_z w64 value)) c.loop-place.values c.push.new.self c.registration.ensures c.loop-place.invariant c.in_ok-push.ensures.ok
    (kept ∙ c.initial_value.ensures)
