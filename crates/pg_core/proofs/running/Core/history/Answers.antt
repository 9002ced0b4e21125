use Rattle.std.proofs.Common.{◌<◌, subst}
use Rattle.pg_core.specs.Progress.{job_of_core}
use Rattle.pg_core.proofs.Needs.{unlost_calls}
use Rattle.pg_core_machine.specs.Machine.{Reaches, RestoresFollowLosses, StepsTell, first_state}
use Rattle.pg_core_machine.proofs.LawsMachine.{StepsTell-from_Reaches, restored_was_lost}
use Rattle.pg_core.proofs.running.Core.history.Goals as goal

pub returns-clause-restores : goal.returns-clause-restores
returns-clause-restores g c =
    let inside = c.self.inside in
    subst (λ core. RestoresFollowLosses (first_state core.limits.partitions core.limits.workers) core.history) c.self.view_is
    (restored_was_lost inside.limits.partitions inside.limits.workers inside.history.items inside.state c.self.invariant.events)

pub returns-clause-steps : goal.returns-clause-steps
returns-clause-steps g c =
    let inside = c.self.inside in
    subst (λ core. StepsTell core.limits.partitions (first_state core.limits.partitions core.limits.workers) core.history core.state) c.self.view_is
    (StepsTell-from_Reaches inside.limits.partitions inside.limits.workers inside.history.items inside.state c.self.invariant.events)

pub returns-clause-unlost : goal.returns-clause-unlost
returns-clause-unlost g c kept right ended none =
    let core = c.args.self.now in
    let some = subst (λ core. 0 < core.limits.partitions) c.self.view_is c.self.invariant.limits_are.partitions_least in
    let events =
    subst (λ core. Reaches (first_state core.limits.partitions core.limits.workers) core.history core.state) c.self.view_is c.self.invariant.events in
    unlost_calls g.P.Value.PartialEq.eq g.P.Message.PartialEq.eq
    (job_of_core g.P.Computation.program g.C.MessageCombiner.combining g.M.MasterCompute.master core) kept core some events right ended none
