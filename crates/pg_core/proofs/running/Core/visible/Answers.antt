use Rattle.std.proofs.Common.{ℕ, ◌+◌, get_or, ap, ◌∙◌, arith}
use Rattle.pg_core.specs.Progress.{job_of_core}
use Rattle.pg_core.proofs.Parts.{made_at}
use Rattle.pg_model.specs.Run.{visible_at}
use Rattle.pg_core.proofs.running.Core.visible.Goals as goal

pub returns-clause-right : goal.returns-clause-right
returns-clause-right g c kept right =
    let core = c.args.self.now in
    let job = job_of_core g.P.Computation.program g.C.MessageCombiner.combining g.M.MasterCompute.master core in
    made_at (visible_at job core.graph) core.shown (core.state.current + 1) c.args.superstep c.index.result.now right.shown (omega (arith, c.requires))
    (c.index.ensures ∙ (ap (λ (s : ℕ). get_or c.self.inside.shown.items s c.index.result.now) c.number.ensures
    ∙ ap (λ core. get_or core.shown c.args.superstep c.index.result.now) c.self.view_is))
