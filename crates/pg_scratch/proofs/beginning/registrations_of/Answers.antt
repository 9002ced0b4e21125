use Rattle.std.proofs.Common.{ℕ, ◌≤◌, ap, map, subst, ◌∙◌}
use Rattle.std.proofs.lemmas.List.{take_all}
use Rattle.pg_scratch.proofs.Registered.{registered_more}
use Rattle.pg_scratch.proofs.beginning.registrations_of.Goals as goal

pub loop-place-preserved : goal.loop-place-preserved
loop-place-preserved c =
    registered_more c.args.registry.now c.loop-place.place c.registration.result c.loop-place.registrations.items
    c.push.new.self.items c.registration.ensures c.loop-place.invariant c.in_ok-push.ensures.items

pub returns-clause-value : goal.returns-clause-value
returns-clause-value c =
    let all = subst (λ (n : ℕ). n ≤ c.loop-place.place) c.len-place-end.ensures.value c.loop-place-test.false in
    c.loop-place.invariant ∙ ap (map (λ e. e.1)) (take_all c.loop-place.place c.args.registry.now all)
