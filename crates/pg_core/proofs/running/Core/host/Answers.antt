use Rattle.std.proofs.Common.{◌≡◌, true, refl, ap, sym, ◌∙◌, subst}
use Rattle.pg_core.specs.Losing.{with_event}
use Rattle.pg_core.specs.Progress.{IsLawful, IsRight, job_of_core}
use Rattle.pg_core.proofs.Recovery.{IsLawful-event, IsRight-host}
use Rattle.pg_core_machine.specs.Machine.{Reaches, after, first_state, is_allowed}
use Rattle.pg_core_machine.specs.declared.event.Event.TheVariants.{Host}
use Rattle.pg_core.proofs.Moved.{moved}
use Rattle.pg_core.proofs.running.Core.host.Goals as goal

pub invariant_of-self-2 : goal.invariant_of-self-2
invariant_of-self-2 g c =
    let inside = c.self.inside in
    let declared = (g.P.Computation.program inside.program.now).declared in
    let registered = (g.M.MasterCompute.master inside.master.now).registrations in
    let event = Host c.args.partition c.args.worker in
    let allowed = subst (λ core. is_allowed core.state event ≡ true) (sym c.self.view_is) c.requires in
    subst (λ state. IsLawful inside.limits declared registered inside.registry state c.push.new.self.items inside.parts.items
    inside.shown.items inside.run_totals) (sym c.host_on.ensures)
    (subst (λ events. IsLawful inside.limits declared registered inside.registry (after inside.state event) events inside.parts.items
    inside.shown.items inside.run_totals) (sym c.in_ok-push.ensures.items)
    (IsLawful-event c.self.invariant event allowed (λ p. refl) refl))

pub returns-clause-right : goal.returns-clause-right
returns-clause-right g c kept right =
    let inside = c.self.inside in
    let core = c.args.self.now in
    let job = job_of_core g.P.Computation.program g.C.MessageCombiner.combining g.M.MasterCompute.master core in
    let event = Host c.args.partition c.args.worker in
    let events =
    subst (λ core. Reaches (first_state core.limits.partitions core.limits.workers) core.history core.state) c.self.view_is c.self.invariant.events in
    let new = moved c.self.view_is c.host_on.ensures c.in_ok-push.ensures.items refl ∙ ap (with_event event) c.self.view_is in
    subst (IsRight job kept) (sym new) (IsRight-host job kept core right events c.args.partition c.args.worker)
