use Rattle.std.proofs.Common.{◌≡◌, ℕ, ◌+◌, ◌++◌, ◌∷◌, [], true, length, take, Some, option_map, ap, sym, ◌∙◌, subst, arith}
use Rattle.pg_core_machine.specs.Machine.{Reaches, after, first_state, is_allowed}
use Rattle.pg_core.specs.Progress.{HasPut, IsLawful, IsNext, job_of_core, with_step}
use Rattle.pg_core_machine.specs.declared.event.Event.TheVariants.{Step}
use Rattle.pg_core.proofs.Steps.{IsLawful-step, IsRight-step, part_within}
use Rattle.pg_core_machine.proofs.LawsSteps.{StepsFrom-from_allowed, length-places_lawful}
use Rattle.pg_core_machine.proofs.LawsMachine.{some_within}
use Rattle.pg_core.proofs.Moved.{moved}
use Rattle.pg_core.proofs.running.Core.stepped.Goals as goal

pub step-requires : goal.step-requires
step-requires g c =
    let inside = c.self.inside in
    let p = c.args.partition in
    let allowed = subst (λ core. is_allowed core.state (Step p) ≡ true) (sym c.self.view_is) c.requires.allowed in
    let next = subst (λ core. IsNext core.limits.partitions core.state p c.args.part) (sym c.self.view_is) c.requires.next in
    let steps = StepsFrom-from_allowed inside.state p allowed in
    ap (option_map (λ (r : ℕ). r + 1)) steps.at ∙ ap Some (sym (c.place-2.ensures ∙ next.place_is steps.from steps.at))

pub put_part-requires-after_bounds : goal.put_part-requires-after_bounds
put_part-requires-after_bounds g c =
    let inside = c.self.inside in
    let p = c.args.partition in
    let declared = (g.P.Computation.program inside.program.now).declared in
    let registered = (g.M.MasterCompute.master inside.master.now).registrations in
    let allowed = subst (λ core. is_allowed core.state (Step p) ≡ true) (sym c.self.view_is) c.requires.allowed in
    let steps = StepsFrom-from_allowed inside.state p allowed in
    λ κs lives. part_within c.self.invariant p allowed p steps.from steps.at

pub invariant_of-self : goal.invariant_of-self
invariant_of-self g c =
    let inside = c.self.inside in
    let declared = (g.P.Computation.program inside.program.now).declared in
    let registered = (g.M.MasterCompute.master inside.master.now).registrations in
    subst
    (λ events. IsLawful inside.limits declared registered inside.registry inside.state events inside.parts.items inside.shown.items inside.run_totals)
    (sym c.in_err-note_step.ensures.refused) c.self.invariant

pub invariant_of-self-2 : goal.invariant_of-self-2
invariant_of-self-2 g c =
    let inside = c.self.inside in
    let p = c.args.partition in
    let part = c.args.part in
    let declared = (g.P.Computation.program inside.program.now).declared in
    let registered = (g.M.MasterCompute.master inside.master.now).registrations in
    let allowed = subst (λ core. is_allowed core.state (Step p) ≡ true) (sym c.self.view_is) c.requires.allowed in
    let next = subst (λ core. IsNext core.limits.partitions core.state p part) (sym c.self.view_is) c.requires.next in
    subst (λ state. IsLawful inside.limits declared registered inside.registry state c.note_step.new.history.items
    c.put_part.new.parts.items inside.shown.items inside.run_totals) (sym c.step.ensures)
    (subst (λ events. IsLawful inside.limits declared registered inside.registry
    (after inside.state (Step p)) events c.put_part.new.parts.items inside.shown.items inside.run_totals)
    (sym c.in_ok-note_step.ensures.history)
    (subst (λ parts. IsLawful inside.limits declared registered inside.registry (after inside.state (Step p))
    (inside.history.items ++ Step p ∷ []) parts inside.shown.items inside.run_totals) (sym c.put_part.ensures)
    (IsLawful-step c.self.invariant p allowed part next)))

pub returns-clause-core : goal.returns-clause-core
returns-clause-core g c =
    let inside = c.self.inside in
    let p = c.args.partition in
    let part = c.args.part in
    let logs = c.note_step.new.logs in
    let seen = moved c.self.view_is c.step.ensures c.in_ok-note_step.ensures.history c.put_part.ensures in
    record {
      core_is = seen ∙ ap (λ core. record (with_step p part core) { logs = logs }) c.self.view_is;
      logs_are = λ r at.
          let place : c.new-place.result ≡ r = omega (arith, c.new-place.ensures, c.number.ensures, c.place.ensures, c.requires.next.place_is r at) in
          subst (λ core. HasPut r p (take core.limits.partitions c.args.sent) core.logs logs) c.self.view_is
          (subst (λ (r : ℕ). HasPut r p (take inside.limits.partitions c.args.sent) inside.logs logs) place c.in_ok-note_step.ensures.logs);
    }

pub returns-clause-right : goal.returns-clause-right
returns-clause-right g c kept right is_step =
    let inside = c.self.inside in
    let core = c.args.self.now in
    let p = c.args.partition in
    let job = job_of_core g.P.Computation.program g.C.MessageCombiner.combining g.M.MasterCompute.master core in
    let steps = StepsFrom-from_allowed core.state p c.requires.allowed in
    let many =
    subst (λ core. length core.state.places ≡ core.limits.partitions) c.self.view_is
    (length-places_lawful inside.limits inside.state inside.history.items c.self.invariant.events) in
    let each = subst (λ core. length core.parts ≡ core.limits.partitions) c.self.view_is c.self.invariant.each in
    let events =
    subst (λ core. Reaches (first_state core.limits.partitions core.limits.workers) core.history core.state) c.self.view_is c.self.invariant.events in
    IsRight-step job kept core p right c.requires.allowed c.args.part c.args.sent _ is_step (returns-clause-core g c)
    (omega (arith, some_within core.state.places p steps.from steps.at, many, each)) events
