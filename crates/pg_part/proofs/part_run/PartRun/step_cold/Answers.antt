use Rattle.std.proofs.Common.{sym, ap, subst}
use Rattle.std.proofs.lemmas.Result.{IfOk-from_err, IfOk-weaker}
use Rattle.pg_part_compute.proofs.StepDeltas.{step_delta_rise}
use Rattle.pg_part.specs.PartRun.{HasStepped}
use Rattle.pg_part.proofs.ColdStep.{cold_steps}
use Rattle.pg_part.proofs.Both.{if_ok_both}
use Rattle.pg_part.proofs.part_run.PartRun.step_cold.Goals as goal

pub finish_step_cold-requires-clause-rise : goal.finish_step_cold-requires-clause-rise
finish_step_cold-requires-clause-rise g c κs lives =
    step_delta_rise g.V.PartialEq.eq g.M.PartialEq.eq _ _ _ _ _ _ _ _ _ _ _ _ _ _ _ c.in_ok-step_delta.ensures.step_delta

pub returns-clause-advanced : goal.returns-clause-advanced
returns-clause-advanced g c =
    IfOk-weaker c.finish_step_cold.result _ _
    (λ stepped is. record {
      partition_stays = ap (λ h. h.partition) is.advanced;
      partitions_stay = ap (λ h. h.partitions) is.advanced;
      missing_stays = ap (λ h. h.missing) is.advanced;
      place_is = ap (λ h. h.place) is.advanced;
    }) c.finish_step_cold.ensures.finish_step

pub returns-clause-to_each : goal.returns-clause-to_each
returns-clause-to_each g c = IfOk-weaker c.finish_step_cold.result _ _ (λ stepped is. is.to_each) c.finish_step_cold.ensures.finish_step

pub returns-clause-stepped : goal.returns-clause-stepped
returns-clause-stepped g c =
    let value_eq = g.V.PartialEq.eq in
    let message_eq = g.M.PartialEq.eq in
    if_ok_both c.finish_step_cold.result _ _ _
    (λ stepped finish_step counted job kept rows n p s logs program combining holds advanced_past_end within has bundled sees.
    subst (HasStepped job value_eq message_eq kept rows n p s stepped.part_run stepped.sent c.args.step_context.meter) (sym counted)
    (cold_steps value_eq message_eq c.args.self (g.P.Computation.program c.args.program.now)
    (g.C.MessageCombiner.combining c.args.combiner.now) c.args.step_context.view
    c.args.step_context.meter c.args.bundles.now c.in_ok-step_delta.step_delta c.in_ok-step_delta.ensures.step_delta c.finish_step_cold.ensures.some stepped.part_run stepped.sent
    finish_step job kept rows n p s logs program combining holds advanced_past_end within has bundled sees))
    c.finish_step_cold.ensures.finish_step c.finish_step_cold.ensures.counted

pub returns-in_err-step_delta : goal.returns-in_err-step_delta
returns-in_err-step_delta g c =
    let none = c.from_residual.ensures.0 in
    let at = c.from_residual.result in
    record { advanced = IfOk-from_err at _ none; to_each = IfOk-from_err at _ none; stepped = IfOk-from_err at _ none }
