use Rattle.std.proofs.Common.{ℕ, ◌+◌, ap, ◌∙◌}
use Rattle.pg_core.specs.Progress.{job_of_core}
use Rattle.pg_core.proofs.Ends.{ending_next}
use Rattle.pg_model.specs.Run.{visible_at}
use Rattle.pg_core.proofs.running.Core.ending_with.Goals as goal

pub returns-clause-right : goal.returns-clause-right
returns-clause-right g c kept right are =
    let core = c.args.self.now in
    let job = job_of_core g.P.Computation.program g.C.MessageCombiner.combining g.M.MasterCompute.master core in
    let now = c.current-current.ensures ∙ ap (λ core. core.state.current) c.self.view_is in
    let halts = ap (λ v. v.halt) (c.visible.ensures.right kept right ∙ ap (visible_at job core.graph) now) in
    let many = ap (λ (k : ℕ). k + 1) (c.number.ensures ∙ now) in
    let most = c.limit-limit.ensures.value ∙ ap (λ core. core.limits.limit) c.self.view_is in
    c.ending_of.ensures
    ∙ ending_next job core.graph core.state.current c.args.stats.now are c.visible.result.now.halt (c.number.result + 1) c.limit-limit.result halts many most
