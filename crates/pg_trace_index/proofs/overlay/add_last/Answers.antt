use Rattle.std.proofs.Common.{true, refl, ap, sym, ◌∙◌}
use Rattle.pg_trace_index.specs.Occurrences.{steps_in, with_ran}
use Rattle.pg_trace_index.proofs.InPlace.{ran_last}
use Rattle.pg_trace_index.proofs.overlay.add_last.Goals as goal

pub returns-in_ok-push-in-Some-clause-added : goal.returns-in_ok-push-in-Some-clause-added
returns-in_ok-push-in-Some-clause-added c was_added =
    let s = c.args.superstep in
    c.in_ok-push-in-Some.ensures ∙ sym (ran_last s c.in-Some.ran (c.if-not-are_below.ensures refl))
    ∙ ap (λ o. with_ran s true (steps_in o)) (sym c.in-Some.is)
