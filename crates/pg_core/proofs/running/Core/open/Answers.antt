use Rattle.std.proofs.Common.{None, refl, subst}
use Rattle.pg_core.specs.Progress.{IsRight}
use Rattle.pg_core.proofs.Opened.{have_begun, job_as_opened}
use Rattle.pg_core.proofs.running.Core.open.Goals as goal

pub returns-clause-right : goal.returns-clause-right
returns-clause-right g c =
    let program = g.P.Computation.program c.args.program.now in
    let combining = g.C.MessageCombiner.combining c.args.combiner.now in
    let master = g.M.MasterCompute.master c.args.master.now in
    let core = c.open_with.result in
    let begun = have_begun program combining master c.args.limits c.args.graph.now c.in_ok-start.start.registry
    c.in_ok-start.ensures.registry_is c.in_ok-parts.parts.items c.in_ok-parts.ensures.begun in
    subst (λ job. IsRight job None core)
    (job_as_opened g.P.Computation.program g.C.MessageCombiner.combining g.M.MasterCompute.master c.open_with.ensures.opened)
    (c.open_with.ensures.right None refl begun)
