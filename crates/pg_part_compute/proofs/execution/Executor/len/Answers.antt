use Rattle.std.proofs.Common.{sym, ◌∙◌}
use Rattle.pg_trace.proofs.Handed.{length_in}
use Rattle.pg_part_compute.proofs.execution.Executor.len.Goals as goal

pub returns : goal.returns
returns g c =
    let executor = c.args.self.now in
    c.len.ensures ∙ executor.produced.ok.0 ∙ sym (length_in executor.cx.sent executor.cx.contributed executor.produced.items)
