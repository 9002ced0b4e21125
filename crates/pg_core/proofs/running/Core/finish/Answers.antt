use Rattle.std.proofs.lemmas.Result.{IfOk-weaker}
use Rattle.pg_core.proofs.running.Core.finish.Goals as goal

pub returns-clause-finished : goal.returns-clause-finished
returns-clause-finished g c =
    IfOk-weaker c.finish_with.result _ _ (λ done finishes kept right. finishes kept right (c.in_ok-values.ensures kept right))
    c.finish_with.ensures.finished
