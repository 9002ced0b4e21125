use Rattle.std.proofs.Common.{refl, ap, ◌∙◌}
use Rattle.pg_trace_index.specs.Occurrences.{last_of}
use Rattle.pg_trace_index.proofs.InPlace.{last_of_below}
use Rattle.pg_trace_index.proofs.steps.Steps.last_below.Goals as goal

pub returns-then-are_below : goal.returns-then-are_below
returns-then-are_below c =
    last_of_below c.args.superstep c.self.inside.latest.superstep c.args.self.now (c.if-are_below.ensures refl)
    (c.self.invariant.last ∙ ap last_of c.self.view_is)
