use Rattle.std.proofs.Common.{◌≡◌, ◌<◌, None, ap, sym, ◌∙◌, subst}
use Rattle.std.proofs.lemmas.Result.{IfOk-from_err, IfOk-weaker}
use Rattle.pg_part_compute.proofs.StepDeltas.{dirty_ids_rise, step_delta_rise}
use Rattle.pg_part.specs.PartRun.{HasStepped, PartRunState, Holds}
use Rattle.pg_part.specs.Warm.{IsFinishedStep, IsStepDeltaWarm, advanced}
use Rattle.pg_part.proofs.Both.{if_ok_both}
use Rattle.pg_part.proofs.WarmStep.{warm_steps, nothing_kept}
use Rattle.pg_part.proofs.part_run.PartRun.step_warm.Goals as goal

pub finish_step-requires-clause-rise : goal.finish_step-requires-clause-rise
finish_step-requires-clause-rise g c κs within =
    step_delta_rise g.V.PartialEq.eq g.M.PartialEq.eq _ _ _ _ _ _ _ _ _ _ _ _ _ _ _ c.in_ok-step_delta-in-Some.ensures.is

pub finish_step-requires-clause-dirty_ids_rise : goal.finish_step-requires-clause-dirty_ids_rise
finish_step-requires-clause-dirty_ids_rise g c κs within =
    dirty_ids_rise g.V.PartialEq.eq g.M.PartialEq.eq _ _ _ _ _ _ _ _ _ _ _ _ _ _ _ c.in_ok-step_delta-in-Some.ensures.is

pub returns-in_ok-step_delta-in-Some-clause-advanced : goal.returns-in_ok-step_delta-in-Some-clause-advanced
returns-in_ok-step_delta-in-Some-clause-advanced g c =
    let step_delta = c.in_ok-step_delta-in-Some.step_delta in
    let rest = c.split_trace-part_run.ensures.rest in
    IfOk-weaker c.finish_step.result _ _
    (λ stepped finish_step.
    let is = finish_step.part_is ∙ (λ i. advanced g.V.PartialEq.eq (rest i) c.in-Some.old step_delta.dirty_ids.items step_delta.changes finish_step.quiescent) in
    record {
      partition_stays = ap (λ h. h.partition) is;
      partitions_stay = ap (λ h. h.partitions) is;
      missing_stays = ap (λ h. h.missing) is;
      place_is = ap (λ h. h.place) is;
    }) c.finish_step.ensures.finish_step

pub returns-in_ok-step_delta-in-Some-clause-to_each : goal.returns-in_ok-step_delta-in-Some-clause-to_each
returns-in_ok-step_delta-in-Some-clause-to_each g c =
    IfOk-weaker c.finish_step.result _ _ (λ stepped finish_step. finish_step.sent_is.to_each ∙ ap (λ h. h.partitions) c.split_trace-part_run.ensures.rest)
    c.finish_step.ensures.finish_step

pub returns-in_ok-step_delta-in-Some-clause-stepped : goal.returns-in_ok-step_delta-in-Some-clause-stepped
returns-in_ok-step_delta-in-Some-clause-stepped g c =
    let values = g.met.V.Eq g.world.𝓛 g.world.𝓜 g.world.𝓡 ((λ s x. x), (λ x. x), (λ x. x), λ x. x) in
    let messages = g.met.M.Eq g.world.𝓛 g.world.𝓜 g.world.𝓡 ((λ s x. x), (λ x. x), (λ x. x), λ x. x) in
    let value_eq = g.V.PartialEq.eq in
    let message_eq = g.M.PartialEq.eq in
    let old = c.in-Some.old in
    let combining' = g.C.MessageCombiner.combining c.args.combiner.now in
    let program' = g.P.Computation.program c.args.program.now in
    let step_delta = c.in_ok-step_delta-in-Some.step_delta in
    let rest = c.split_trace-part_run.ensures.rest in
    if_ok_both c.finish_step.result _ _ _
    (λ stepped finish_step counted job kept rows n p s program combining holds within has bundled sees step_input.
    let steps = warm_steps value_eq message_eq values.laws.refl messages.laws.refl c.args.self old combining' program' c.args.logs.now c.args.old_logs.now
    c.args.old_view.now c.args.step_context.view c.args.bundles.now c.args.step_context.meter step_delta
    (subst (λ h. 0 < h.partitions) rest c.finish_step.ensures.some)
    (sym c.split_trace-part_run.ensures.kept ∙ c.in-Some.is)
    (subst (λ h. IsStepDeltaWarm value_eq message_eq combining' h old c.args.old_logs.now program' c.args.logs.now c.args.old_view.now c.args.step_context.view
    c.args.bundles.now c.args.step_context.meter step_delta) rest c.in_ok-step_delta-in-Some.ensures)
    stepped.part_run stepped.sent
    (subst
    (λ h. IsFinishedStep value_eq message_eq combining' h old c.args.old_logs.now step_delta.dirty_ids.items step_delta.changes stepped.part_run stepped.sent) rest
    finish_step) in
    subst (HasStepped job value_eq message_eq kept rows n p s stepped.part_run stepped.sent c.args.step_context.meter) (sym counted)
    (steps job kept rows n p s program combining holds within has bundled sees step_input))
    c.finish_step.ensures.finish_step c.finish_step.ensures.counted

pub returns-in-None-clause-stepped : goal.returns-in-None-clause-stepped
returns-in-None-clause-stepped g c =
    let part_run : PartRunState g.row.V.Denot g.row.M.Denot = c.args.self in
    let none : part_run.kept ≡ None = sym c.split_trace-part_run.ensures.kept ∙ c.in-None.is in
    let rest : part_run ≡ c.split_trace-part_run.result.0 = (λ i. record part_run { kept = none i }) ∙ sym c.split_trace-part_run.ensures.rest in
    IfOk-weaker c.step_cold.result _ _
    (λ stepped h job kept rows n p s program combining holds within has bundled sees step_input.
    h job kept rows n p s c.args.logs.now program combining
    (subst (Holds job kept rows n p s) rest holds) (nothing_kept job kept rows n p s part_run holds none) within has bundled sees)
    c.step_cold.ensures.stepped

pub returns-in_err-step_delta-in-Some : goal.returns-in_err-step_delta-in-Some
returns-in_err-step_delta-in-Some g c =
    let none = c.from_residual.ensures.0 in
    let at = c.from_residual.result in
    record { advanced = IfOk-from_err at _ none; to_each = IfOk-from_err at _ none; stepped = IfOk-from_err at _ none }
