use Rattle.std.proofs.Common.{ap, ◌∙◌, ltb-true}
use Rattle.pg_trace_index.specs.Occurrences.{last_of}
use Rattle.pg_trace_index.proofs.InPlace.{below_the_last}
use Rattle.pg_trace_index.proofs.steps.Steps.are_below.Goals as goal

pub returns : goal.returns
returns c is_below =
    let latest = c.self.inside.latest.superstep in
    below_the_last c.args.superstep latest c.args.self.now c.requires (c.self.invariant.last ∙ ap last_of c.self.view_is)
    (ltb-true latest c.args.superstep is_below)
