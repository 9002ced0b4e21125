use Rattle.std.proofs.Common.{◌++◌, ◌∷◌, [], ap, ◌∙◌}
use Rattle.std.proofs.lemmas.List.{take_all}
use Rattle.std.proofs.lemmas.Result.{IfOk-from_err}
use Rattle.pg_map.proofs.Moved.{taken_more}
use Rattle.pg_trace.proofs.records.shared.Goals as goal

pub loop-records-preserved : goal.loop-records-preserved
loop-records-preserved g c =
    taken_more c.args.supersteps.now c.loop-records.records-index c.loop-records-test.true c.records-item.is c.loop-records.invariant
    (c.in_ok-push.ensures.items ∙ ap (λ r. c.loop-records.shared.items ++ r ∷ []) c.in_ok-cheap_clone.ensures.records)

pub returns : goal.returns
returns g c = c.loop-records.invariant ∙ take_all c.loop-records.records-index c.args.supersteps.now c.loop-records-test.false

pub returns-in_err-shared : goal.returns-in_err-shared
returns-in_err-shared g c = IfOk-from_err c.from_residual.result _ c.from_residual.ensures.0

pub returns-in_err-cheap_clone : goal.returns-in_err-cheap_clone
returns-in_err-cheap_clone g c = IfOk-from_err c.from_residual-in_err-cheap_clone.result _ c.from_residual-in_err-cheap_clone.ensures.0

pub returns-in_err-push : goal.returns-in_err-push
returns-in_err-push g c = IfOk-from_err c.from_residual-in_err-push.result _ c.from_residual-in_err-push.ensures.0
