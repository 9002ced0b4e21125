use Rattle.std.proofs.Common.{◌≡◌, ◌+◌, ◌<◌, [], ◌∷◌, ◌++◌, true, length, sym, ap, ◌∙◌, subst, arith}
use Rattle.std.proofs.lemmas.List.{length_push}
use Rattle.pg_core_machine.specs.Machine.{after, is_allowed}
use Rattle.pg_core.specs.Progress.{IsLawful}
use Rattle.pg_core_machine.specs.declared.event.Closed.TheVariants.{Next}
use Rattle.pg_core_machine.specs.declared.event.Event.TheVariants.{Close}
use Rattle.pg_core.proofs.Ends.{IsLawful-next, IsLawful-shown}
use Rattle.pg_core.proofs.running.Core.open_next.Goals as goal

pub invariant_of-self-2 : goal.invariant_of-self-2
invariant_of-self-2 g c =
    let inside = c.self.inside in
    let limits = inside.limits in
    let declared = (g.P.Computation.program inside.program.now).declared in
    let registered = (g.M.MasterCompute.master inside.master.now).registrations in
    let parts = inside.parts.items in
    let visible = c.in_ok-visible.visible in
    let shown = inside.shown.items ++ visible ∷ [] in
    let run_totals = c.args.run_totals in
    let allowed = subst (λ core. is_allowed core.state (Close Next) ≡ true) (sym c.self.view_is) c.requires.allowed in
    let places = subst (λ core. length run_totals.gathered ≡ length (g.M.MasterCompute.master core.master).registrations) (sym c.self.view_is) c.requires.places in
    let within = subst (λ core. core.state.current + 1 < core.limits.limit) (sym c.self.view_is) c.requires.goes_on in
    let more : inside.state.current + 1 < length shown = omega (arith, length_push inside.shown.items visible, c.self.invariant.shown_so_far) in
    let seen = c.in_ok-visible.ensures.places ∙ (ap length c.in_ok-seen.ensures ∙ places) in
    subst (λ state. IsLawful limits declared registered inside.registry state c.push-2.new.self.items parts c.push.new.self.items run_totals) (sym c.close.ensures)
    (subst
    (λ events. IsLawful limits declared registered inside.registry (after inside.state (Close Next)) events parts c.push.new.self.items run_totals)
    (sym c.in_ok-push-2.ensures.items)
    (subst (λ shown. IsLawful limits declared registered inside.registry (after inside.state (Close Next))
    (inside.history.items ++ Close Next ∷ []) parts shown run_totals) (sym c.in_ok-push.ensures.items)
    (IsLawful-next (IsLawful-shown c.self.invariant visible seen) allowed run_totals places within more)))

pub invariant_of-self-in_err-push-2 : goal.invariant_of-self-in_err-push-2
invariant_of-self-in_err-push-2 g c =
    let inside = c.self.inside in
    let limits = inside.limits in
    let declared = (g.P.Computation.program inside.program.now).declared in
    let registered = (g.M.MasterCompute.master inside.master.now).registrations in
    let parts = inside.parts.items in
    let visible = c.in_ok-visible.visible in
    let run_totals = c.args.run_totals in
    let places = subst (λ core. length run_totals.gathered ≡ length (g.M.MasterCompute.master core.master).registrations) (sym c.self.view_is) c.requires.places in
    let seen = c.in_ok-visible.ensures.places ∙ (ap length c.in_ok-seen.ensures ∙ places) in
    subst (λ events. IsLawful limits declared registered inside.registry inside.state events parts c.push.new.self.items inside.run_totals)
    (sym c.in_err-push-2.ensures.items)
    (subst (λ shown. IsLawful limits declared registered inside.registry inside.state inside.history.items parts shown inside.run_totals)
    (sym c.in_ok-push.ensures.items)
    (IsLawful-shown c.self.invariant visible seen))
