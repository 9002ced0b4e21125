use Rattle.std.proofs.Common.{subst}
use Rattle.pg_part.specs.PartRun.{HasStepped}
use Rattle.pg_part.proofs.part_run.PartRun.step.Goals as goal

pub returns-in-Ok-clause-stepped : goal.returns-in-Ok-clause-stepped
returns-in-Ok-clause-stepped g c job kept rows n p r program combining holds step_input step_warm =
    subst (λ m. HasStepped job g.V.PartialEq.eq g.M.PartialEq.eq kept rows n p r c.in-Ok.stepped.part_run c.in-Ok.stepped.sent m c.in-Ok.stepped.meter)
    c.copy.ensures.value
    (c.in-Ok.ensures.stepped job kept rows n p r program combining holds step_input step_warm)
