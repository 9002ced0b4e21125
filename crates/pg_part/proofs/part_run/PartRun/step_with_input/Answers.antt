use Rattle.std.proofs.Common.{ap, sym, ◌∙◌, subst}
use Rattle.std.specs.Option.{option_copied, option_map}
use Rattle.std.proofs.lemmas.Result.{IfOk-from_err, IfOk-weaker}
use Rattle.pg_model.specs.Superstep.{view_of}
use Rattle.pg_part_routing.specs.Routes.{bundles_before}
use Rattle.pg_part.specs.PartRun.{HasStepped}
use Rattle.pg_part.proofs.part_run.PartRun.step_with_input.Goals as goal

pub returns-clause-stepped : goal.returns-clause-stepped
returns-clause-stepped g c =
    IfOk-weaker c.step_with.result _ _
    (λ stepped h job kept rows n p r program combining holds step_input old.
    let declared = ap (λ q. q.declared) (sym program) in
    let same_view = option_copied c.args.old_visible in
    subst (λ m. HasStepped job g.V.PartialEq.eq g.M.PartialEq.eq kept rows n p r stepped.part_run stepped.sent m stepped.meter) c.in_ok-step_input.ensures.meter
    (h job kept rows n p r same_view program combining holds step_input.within step_input.messages
    (c.in_ok-step_input.ensures.bundles ∙ (λ i. bundles_before c.args.logs.now (holds.partitions_are i) (holds.partition_is i) (holds.place_is i)))
    (c.in_ok-step_input.ensures.view ∙ (λ i. view_of (declared i) (holds.place_is i) (step_input.sees i)))
    (c.in_ok-step_input.ensures.old_view ∙ (λ i. option_map (view_of (declared i) (holds.place_is i)) same_view))
    old)) c.step_with.ensures.stepped

pub returns-in_err-step_input : goal.returns-in_err-step_input
returns-in_err-step_input g c =
    let none = c.from_residual.ensures.0 in
    let at = c.from_residual.result in
    record { advanced = IfOk-from_err at _ none; to_each = IfOk-from_err at _ none; stepped = IfOk-from_err at _ none }
