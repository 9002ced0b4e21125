use Rattle.std.proofs.lemmas.Result.{IfOk-from_err}
use Rattle.pg_part.proofs.part.Part.leave.Goals as goal

pub returns-in_err-cut : goal.returns-in_err-cut
returns-in_err-cut g c = IfOk-from_err c.from_residual.result _ c.from_residual.ensures.0

pub returns-in_err-trace : goal.returns-in_err-trace
returns-in_err-trace g c = IfOk-from_err c.from_residual-in_err-trace.result _ c.from_residual-in_err-trace.ensures.0
