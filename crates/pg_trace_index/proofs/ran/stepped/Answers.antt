use Rattle.std.proofs.Common.{[], ◌∷◌, cond, is_some, ap}
use Rattle.pg_trace_index.specs.History.{steps_of}
use Rattle.pg_trace_index.specs.Occurrences.{steps_above, steps_below}
use Rattle.pg_trace_index.proofs.Runs.{in_three}
use Rattle.pg_trace_index.proofs.ran.stepped.Goals as goal

pub returns : goal.returns
returns c =
    let s = c.args.superstep in
    let steps = steps_of c.args.runs.now in
    in_three (steps_below s steps) (cond (is_some c.args.given) (s ∷ []) []) (steps_above s steps) (ap steps_of c.in_ok-stepped.ensures.items)
    c.in_ok-add_below.ensures c.in_ok-add_given.ensures c.in_ok-add_above.ensures
