use Rattle.std.proofs.Common.{IfOk, subst}
use Rattle.pg_workers.specs.Handed.{IsOpened}
use Rattle.pg_service.proofs.service.Service.opened.Goals as goal

pub returns-in-None-clause-opened : goal.returns-in-None-clause-opened
returns-in-None-clause-opened g c =
    subst (λ s. IfOk c.open.result (λ core. IsOpened core s.job.program s.job.combiner s.job.master s.graph s.job.limits c.args.run))
    c.self.view_is c.open.ensures.opened

pub returns-in-Some-clause-opened : goal.returns-in-Some-clause-opened
returns-in-Some-clause-opened g c =
    subst (λ s. IfOk c.open_warm.result (λ core. IsOpened core s.job.program s.job.combiner s.job.master s.graph s.job.limits c.args.run))
    c.self.view_is c.open_warm.ensures.opened
