use Rattle.std.proofs.Common.{◌≡◌, ◌==◌, ◌++◌, ◌∷◌, [], ℕ, ℤ, Bool, true, false, ap, cond, map, refl, ◌∙◌}
use Rattle.std.proofs.lemmas.List.{take_all}
use Rattle.pg_map.proofs.Filling.{joined_more}
use Rattle.pg_model.specs.Superstep.{at_place}
use Rattle.pg_global.proofs.Contributed.{at_place-append}
use Rattle.pg_global.proofs.gathering.values_at.Goals as goal

one_at : (b : Bool) (x : ℕ × ℤ) → cond b (x.1 ∷ []) [] ≡ map (λ (c : ℕ × ℤ). c.1) (cond b (x ∷ []) [])
one_at true x = refl
one_at false x = refl

pub loop-contribution-preserved : goal.loop-contribution-preserved
loop-contribution-preserved c =
    let place = c.args.place in
    let x = c.contribution-item.result in
    joined_more (at_place place) (at_place-append place) c.args.contributions.now c.loop-contribution.contribution-index c.loop-contribution-test.true
    c.contribution-item.is c.loop-contribution.invariant
    (c.in_ok-push_if_at.ensures ∙ ap (λ l. c.loop-contribution.values.items ++ l) (one_at (x.0 == place) x))

pub returns : goal.returns
returns c =
    c.loop-contribution.invariant
    ∙ ap (at_place c.args.place) (take_all c.loop-contribution.contribution-index c.args.contributions.now c.loop-contribution-test.false)
