use Rattle.std.proofs.Common.{◌≡◌, ℤ, [], ◌∙◌, ap, arith, below_more, get_or, pos, rules, w64, to_z, of_z}
use Rattle.std.proofs.lemmas.Int.{to_z-of_z}
use Rattle.std.proofs.lemmas.List.{get_or_default}
use Rattle.pg_global.specs.Registry.{aggregating_of}
use Rattle.pg_model.specs.Superstep.{gathered_at}
use Rattle.pg_stats.proofs.Adding.{stats_of_all-none}
use Rattle.pg_stats.proofs.Contributed.{started-all, started-next}
use Rattle.pg_stats.proofs.global_stats.GlobalStats.new.Goals as goal

pub loop-place-preserved : goal.loop-place-preserved
loop-place-preserved c =
    let place = c.loop-place.place in
    let r = c.registration.result in
    let start : ℤ = c.start_of.result in
    let seen : ℤ = get_or c.args.visible.now place (pos 0) in
    let kept : to_z w64 (of_z w64 start) ≡ start = grind (arith, to_z-of_z) in
    let seen_kept : to_z w64 (of_z w64 seen) ≡ seen = grind (arith, to_z-of_z) in
    record {
      started = started-next c.args.registry.now c.args.visible.now c.loop-place.gathered c.push.new.self place r (to_z w64 (of_z w64 start)) (pos 0)
          c.registration.ensures
          (omega (arith, c.requires, c.loop-place-test.true, c.len-place-end.ensures.value))
          (kept ∙ (c.start_of.ensures ∙ ap (λ (x : ℤ). gathered_at (aggregating_of r) x []) seen_kept)) c.in_ok-push.ensures.ok c.loop-place.invariant.started;
      fits = below_more _ _ c.loop-place.invariant.fits (search rules);
    }

pub returns-clause-value : goal.returns-clause-value
returns-clause-value c =
    stats_of_all-none c.args.registry.now c.args.visible.now c.loop-place.gathered
    (started-all c.args.registry.now c.args.visible.now c.loop-place.gathered c.loop-place.place
    (omega (arith, c.loop-place-test.false, c.len-place-end.ensures.value)) c.loop-place.invariant.started)

pub returns-clause-fits : goal.returns-clause-fits
returns-clause-fits c =
    λ k d h. rw (get_or_default c.args.visible.now k d (pos 0) h)
    (c.loop-place.invariant.fits k (omega (arith, h, c.requires, c.loop-place-test.false, c.len-place-end.ensures.value)))
