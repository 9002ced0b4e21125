use Rattle.std.proofs.Common.{ap, length, option_map, ◌∙◌}
use Rattle.std.proofs.lemmas.Result.{IfOk-weaker}
use Rattle.pg_service.proofs.Ran.{ran_if}
use Rattle.pg_service.proofs.service.Service.run_warm.Goals as goal

pub returns-clause-ran : goal.returns-clause-ran
returns-clause-ran g c =
    let state = c.args.self.now in
    ran_if _ state.job state.graph (option_map (λ run. run.traces.graph) c.args.kept) c.in_ok-core.core (g.F.Fate.fated c.args.fate.now)
    (g.S.Shelf.state c.args.shelf.now).is_honest _ c.in_ok-core.ensures.opened c.in_ok-core.ensures.right c.run_job.result
    c.requires.honest c.run_job.ensures.driven c.run_job.ensures.unlost c.run_job.ensures.cold

pub returns-clause-named : goal.returns-clause-named
returns-clause-named g c =
    IfOk-weaker c.run_job.result _ _
    (λ done driven. driven.places ∙ ap (λ m. length (g.M.MasterCompute.master m).registrations) c.in_ok-core.ensures.opened.master_is)
    c.run_job.ensures.driven
