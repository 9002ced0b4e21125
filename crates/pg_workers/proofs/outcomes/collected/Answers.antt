use Rattle.std.proofs.Common.{◌≡◌, [], ◌++◌, ap, sym, ◌∙◌}
use Rattle.std.proofs.lemmas.List.{append-nil, nil_from_length}
use Rattle.pg_workers.specs.Rounds.{fallen_in, with_outcomes}
use Rattle.pg_workers.proofs.outcomes.collected.Goals as goal

pub returns : goal.returns
returns g c =
    let rest = c.loop-outcome.outcome-iterator.rest in
    let steps = c.loop-outcome.steps.items in
    let fallen = c.loop-outcome.fallen.items in
    let none : rest.items ≡ [] = nil_from_length rest.items (sym rest.ok.0 ∙ c.in-None.ensures.steps.0) in
    record {
      none = c.in_ok-steps.steps.items;
      nothing = c.in_ok-steps.ensures;
      steps_are = ap (λ l. with_outcomes l steps) (sym none) ∙ c.loop-outcome.invariant.steps;
      fallen_are = sym (append-nil fallen) ∙ (ap (λ l. fallen ++ fallen_in c.args.superstep l) (sym none) ∙ c.loop-outcome.invariant.fallen);
    }
