use Rattle.std.proofs.Common.{◌≡◌, ◌+◌, ◌<◌, Some, ap, ◌∙◌, arith}
use Rattle.pg_trace_index.specs.Occurrences.{last_of}
use Rattle.pg_trace_index.proofs.InPlace.{below_the_last, last_of_below}
use Rattle.pg_trace_index.proofs.steps.Steps.last_up_to.Goals as goal

pub returns-then-self-superstep : goal.returns-then-self-superstep
returns-then-self-superstep c =
    let s = c.args.superstep in
    let steps = c.args.self.now in
    let t = c.self.inside.latest.superstep in
    let last : Some t ≡ last_of steps = c.self.invariant.last ∙ ap last_of c.self.view_is in
    let low : t < s + 1 = omega (arith, c.if-self-superstep.true) in
    last_of_below (s + 1) t steps (below_the_last (s + 1) t steps c.requires last low) last
