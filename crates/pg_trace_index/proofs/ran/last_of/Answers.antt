use Rattle.std.proofs.Common.{◌-◌, length}
use Rattle.pg_trace_index.specs.declared.ran.Occurrence.{Occurrence}
use Rattle.pg_trace_index.proofs.Runs.{last_of_map}
use Rattle.pg_trace_index.proofs.Supersteps.{one_at_least}
use Rattle.pg_trace_index.proofs.ran.last_of.Goals as goal

pub returns : goal.returns
returns c =
    let runs = c.args.runs.now in
    last_of_map (λ (r : Occurrence). r.superstep) runs (length runs - 1) _ (one_at_least (length runs) c.if-is_empty.ensures)
