use Rattle.std.proofs.lemmas.Result.{IfOk-from_err}
use Rattle.pg_scratch.proofs.inbox.take_before.Goals as goal

pub returns-in_err-initial-in-None : goal.returns-in_err-initial-in-None
returns-in_err-initial-in-None g c =
    let none = c.from_residual.ensures.0 in
    record { value = IfOk-from_err c.from_residual.result _ none; taken = IfOk-from_err c.from_residual.result _ none }
