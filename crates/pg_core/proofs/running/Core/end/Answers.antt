use Rattle.std.proofs.Common.{◌≡◌, true, length, sym, subst}
use Rattle.pg_core_machine.specs.Machine.{after, is_allowed}
use Rattle.pg_core.specs.Progress.{IsLawful}
use Rattle.pg_core_machine.specs.declared.event.Closed.TheVariants.{Next, Ended}
use Rattle.pg_core_machine.specs.declared.event.Event.TheVariants.{Close}
use Rattle.pg_core.proofs.Ends.{IsLawful-end}
use Rattle.pg_core.proofs.running.Core.end.Goals as goal

pub invariant_of-self-2 : goal.invariant_of-self-2
invariant_of-self-2 g c =
    let inside = c.self.inside in
    let declared = (g.P.Computation.program inside.program.now).declared in
    let registered = (g.M.MasterCompute.master inside.master.now).registrations in
    let parts = inside.parts.items in
    let shown = inside.shown.items in
    let allowed = subst (λ core. is_allowed core.state (Close Next) ≡ true) (sym c.self.view_is) c.requires.allowed in
    let places =
    subst (λ core. length c.args.run_totals.gathered ≡ length (g.M.MasterCompute.master core.master).registrations) (sym c.self.view_is) c.requires.places in
    subst (λ state. IsLawful inside.limits declared registered inside.registry state c.push.new.self.items parts shown c.args.run_totals) (sym c.close.ensures)
    (subst
    (λ events. IsLawful inside.limits declared registered inside.registry (after inside.state (Close Ended)) events parts shown c.args.run_totals)
    (sym c.in_ok-push.ensures.items)
    (IsLawful-end c.self.invariant allowed c.args.run_totals places))
