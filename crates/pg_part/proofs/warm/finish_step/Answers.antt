use Rattle.std.proofs.lemmas.Result.{IfOk-from_err}
use Rattle.pg_part.proofs.warm.finish_step.Goals as goal

pub returns-clause-finish_step : goal.returns-clause-finish_step
returns-clause-finish_step g c = record {
  quiescent = c.in_ok-part_run.part_run.quiescent;
  quiescent_are = c.in_ok-part_run.ensures.quiescent;
  part_is = c.in_ok-part_run.ensures.advanced;
  eq_is_sound = c.in_ok-part_run.ensures.eq_is_sound;
  sent_is = c.in_ok-sent.ensures.sent;
}

pub returns-in_err-sent : goal.returns-in_err-sent
returns-in_err-sent g c =
    let none = c.from_residual.ensures.0 in
    let at = c.from_residual.result in
    record { some = c.in_err-sent.ensures.some; finish_step = IfOk-from_err at _ none; counted = IfOk-from_err at _ none }

pub returns-in_err-part_run : goal.returns-in_err-part_run
returns-in_err-part_run g c =
    let none = c.from_residual-in_err-part_run.ensures.0 in
    let at = c.from_residual-in_err-part_run.result in
    record { some = c.in_ok-sent.ensures.some; finish_step = IfOk-from_err at _ none; counted = IfOk-from_err at _ none }
