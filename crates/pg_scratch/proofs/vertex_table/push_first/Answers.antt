use Rattle.std.proofs.lemmas.Result.{IfOk-from_err}
use Rattle.pg_scratch.proofs.vertex_table.push_first.Goals as goal

pub returns-in_err-made : goal.returns-in_err-made
returns-in_err-made g c = IfOk-from_err c.from_residual.result _ c.from_residual.ensures.0

pub returns-in_err-push : goal.returns-in_err-push
returns-in_err-push g c = IfOk-from_err c.from_residual-in_err-push.result _ c.from_residual-in_err-push.ensures.0
