use Rattle.std.proofs.Common.{refl, ◌≡◌, ℕ, ◌<◌, ◌≤◌, List, arith, true, length, get_or, set, None, Some, ap, sym, ◌∙◌, subst}
use Rattle.std.specs.Option.{IsSome}
use Rattle.std.proofs.lemmas.Bool.{and_parts}
use Rattle.std.proofs.lemmas.List.{get_or-set_same}
use Rattle.std.proofs.lemmas.Option.{same_Some}
use Rattle.pg_core_machine.specs.Machine.{is_allowed}
use Rattle.pg_core.specs.Progress.{IsLawful, IsPartAt, IsRight, is_ready, job_of_core, part_at, without_part}
use Rattle.pg_core_machine.specs.declared.event.Event.TheVariants.{Step}
use Rattle.pg_core.proofs.Parts.{here_is, some_inside}
use Rattle.pg_core.proofs.Steps.{IsLawful-take, IsRight-take, HasStepInput-taken}
use Rattle.pg_core_machine.proofs.LawsSteps.{StepsFrom-from_allowed, length-places_lawful}
use Rattle.pg_core.proofs.Moved.{moved}
use Rattle.pg_core.proofs.running.Core.take.Goals as goal

pub invariant_of-self : goal.invariant_of-self
invariant_of-self g c =
    let inside = c.self.inside in
    let p = c.args.partition in
    let declared = (g.P.Computation.program inside.program.now).declared in
    let registered = (g.M.MasterCompute.master inside.master.now).registrations in
    let ready = subst (λ core. is_ready core p ≡ true) (sym c.self.view_is) c.requires in
    let allowed = (and_parts (is_allowed inside.state (Step p)) _ ready).0 in
    subst (λ parts. IsLawful inside.limits declared registered inside.registry inside.state inside.history.items parts inside.shown.items inside.run_totals)
    (λ i. set inside.parts.items (sym c.number.ensures i) (sym c.take.ensures.after i))
    (IsLawful-take c.self.invariant p allowed)

pub returns-clause-part : goal.returns-clause-part
returns-clause-part g c =
    let inside = c.self.inside in
    let parts = inside.parts.items in
    let p = c.args.partition in
    let ready = subst (λ core. is_ready core p ≡ true) (sym c.self.view_is) c.requires in
    let some = (and_parts (is_allowed inside.state (Step p)) _ ready).1 in
    subst (λ core. part_at p core ≡ Some c.unwrap.result) c.self.view_is
    (here_is parts p c.index_mut.result.now c.unwrap.result some (c.index_mut.ensures.value
    ∙ ap (λ (p : ℕ). get_or parts p c.index_mut.result.now) c.number.ensures)
    (sym c.take.ensures.value ∙ c.unwrap.ensures))

pub returns-clause-at : goal.returns-clause-at
returns-clause-at g c =
    let inside = c.self.inside in
    let parts = inside.parts.items in
    let p = c.args.partition in
    let ready = subst (λ core. is_ready core p ≡ true) (sym c.self.view_is) c.requires in
    let some = (and_parts (is_allowed inside.state (Step p)) _ ready).1 in
    let here =
    here_is parts p c.index_mut.result.now c.unwrap.result some (c.index_mut.ensures.value
    ∙ ap (λ (p : ℕ). get_or parts p c.index_mut.result.now) c.number.ensures) (sym c.take.ensures.value ∙ c.unwrap.ensures) in
    subst (λ core. IsPartAt core.limits.partitions core.state p c.unwrap.result) c.self.view_is (c.self.invariant.here p c.unwrap.result here)

pub returns-clause-right : goal.returns-clause-right
returns-clause-right g c kept right =
    let inside = c.self.inside in
    let core = c.args.self.now in
    let parts = inside.parts.items in
    let p = c.args.partition in
    let job = job_of_core g.P.Computation.program g.C.MessageCombiner.combining g.M.MasterCompute.master core in
    let was = and_parts (is_allowed core.state (Step p)) _ c.requires in
    let some = subst (λ core. IsSome (part_at p core)) (sym c.self.view_is) was.1 in
    let here =
    here_is parts p c.index_mut.result.now c.unwrap.result some (c.index_mut.ensures.value
    ∙ ap (λ (p : ℕ). get_or parts p c.index_mut.result.now) c.number.ensures) (sym c.take.ensures.value ∙ c.unwrap.ensures) in
    let there = subst (λ core. part_at p core ≡ Some c.unwrap.result) c.self.view_is here in
    let many =
    subst (λ core. length core.state.places ≡ core.limits.partitions) c.self.view_is
    (length-places_lawful inside.limits inside.state inside.history.items c.self.invariant.events) in
    let new = moved c.self.view_is refl refl (λ i. set parts (c.number.ensures i) (c.take.ensures.after i)) ∙ ap (without_part p) c.self.view_is in (
      subst (IsRight job kept) (sym new)
          (IsRight-take job kept core p right was.0 (some_inside core.parts p was.1)),
      HasStepInput-taken job kept core p right was.0 many c.unwrap.result there,
    )

pub returns-clause-gone : goal.returns-clause-gone
returns-clause-gone g c =
    let inside = c.self.inside in
    let p = c.args.partition in
    let ready = subst (λ core. is_ready core p ≡ true) (sym c.self.view_is) c.requires in
    let some = (and_parts (is_allowed inside.state (Step p)) _ ready).1 in
    ap (λ (l : List _). get_or l p None) (λ i. set inside.parts.items (c.number.ensures i) (c.take.ensures.after i))
    ∙ get_or-set_same inside.parts.items p None None (some_inside inside.parts.items p some)

pub returns-clause-reached : goal.returns-clause-reached
returns-clause-reached g c =
    let core = c.args.self.now in
    let p = c.args.partition in
    let at = returns-clause-at g c in
    let steps = StepsFrom-from_allowed core.state p (and_parts (is_allowed core.state (Step p)) _ c.requires).0 in
    let same = same_Some steps.from c.unwrap.result.part_run.place (sym steps.at ∙ at.place_is) in
    omega (arith, steps.open_or_before, same)

pub returns-clause-small : goal.returns-clause-small
returns-clause-small g c =
    let within = subst (λ core. core.state.current < core.limits.limit) c.self.view_is c.self.invariant.within in
    let most = subst (λ core. core.limits.limit ≤ 10000) c.self.view_is c.self.invariant.limits_are.limit_most in
    omega (arith, within, most)
