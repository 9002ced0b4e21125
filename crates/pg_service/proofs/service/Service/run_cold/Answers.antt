use Rattle.std.proofs.Common.{◌≡◌, ap, rules, subst, sym, ◌∙◌}
use Rattle.pg_graph.specs.Rows.{HasRisingIds}
use Rattle.pg_model.specs.Run.{executions}
use Rattle.pg_model.specs.Superstep.{capped}
use Rattle.pg_model.proofs.LawsNeeded.{needed_count-none}
use Rattle.pg_service.specs.Job.{job_of_service}
use Rattle.pg_service.proofs.service.Service.run_cold.Goals as goal

pub returns-in-Ok-clause-calls : goal.returns-in-Ok-clause-calls
returns-in-Ok-clause-calls g c =
    let own = job_of_service g.P.Computation.program g.C.MessageCombiner.combining g.M.MasterCompute.master c.args.self.now.job in
    let ran : c.count.result ≡ capped (executions own c.args.self.now.graph) = search rules in
    let rising : HasRisingIds c.args.self.now.graph = subst HasRisingIds (ap (λ s. s.graph) c.self.view_is) c.in-Ok.ensures.rising in
    ran ∙ ap capped (sym (needed_count-none g.P.Value.PartialEq.eq g.P.Message.PartialEq.eq own c.args.self.now.graph rising))
