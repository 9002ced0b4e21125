use Rattle.std.proofs.lemmas.Result.{on_ok_weaker}
use Rattle.pg_workers.proofs.coordinator.Coordinator.turn.Goals as goal

pub returns-then-may_close-clause-keeps : goal.returns-then-may_close-clause-keeps
returns-then-may_close-clause-keeps g c =
    on_ok_weaker c.close.result (λ keeps first runs. keeps (g.F.Fate.fated c.args.fate.now) first runs) c.close.ensures.keeps
