use Rattle.std.proofs.Common.{Some, subst, sym}
use Rattle.pg_core.specs.Traces.{IsRetainedRunOf}
use Rattle.pg_global.specs.Master.{job_of}
use Rattle.pg_core.specs.Progress.{IsRight}
use Rattle.pg_core.proofs.Opened.{have_begun_warm, job_as_opened}
use Rattle.pg_core.proofs.running.Core.open_warm.Goals as goal

pub returns-clause-right : goal.returns-clause-right
returns-clause-right g c kept retained untouched =
    let program = g.P.Computation.program c.args.program.now in
    let combining = g.C.MessageCombiner.combining c.args.combiner.now in
    let master = g.M.MasterCompute.master c.args.master.now in
    let start = c.in_ok-start in
    let core = c.open_with.result in
    let job = job_of program combining master c.args.limits.missing c.args.limits.limit in
    let begun = have_begun_warm program combining master c.args.limits c.args.graph.now start.start.registry start.ensures.registry_is
    c.in_ok-parts.parts.items c.args.touched.now c.args.old kept c.in_ok-parts.ensures.begun retained untouched in
    let retained_run = subst (IsRetainedRunOf job kept c.args.limits.partitions) (sym c.in_ok-parts.ensures.retained_run) retained.retained_run in
    subst (λ job. IsRight job (Some kept) core)
    (job_as_opened g.P.Computation.program g.C.MessageCombiner.combining g.M.MasterCompute.master c.open_with.ensures.opened)
    (c.open_with.ensures.right (Some kept) retained_run begun)
