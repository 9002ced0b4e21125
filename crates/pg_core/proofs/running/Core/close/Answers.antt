use Rattle.std.proofs.lemmas.Result.{IfOk-weaker}
use Rattle.pg_core.proofs.running.Core.close.Goals as goal

pub returns-clause-right : goal.returns-clause-right
returns-clause-right g c =
    IfOk-weaker c.close_with.result _ _ (λ closed closes kept right. closes kept right (c.in_ok-stats.ensures.right kept right)) c.close_with.ensures.right
