use Rattle.std.proofs.Common.{◌++◌, ◌∷◌, [], ap, sym, ◌∙◌}
use Rattle.std.proofs.lemmas.List.{nil_from_length}
use Rattle.std.proofs.lemmas.Result.{IfOk-from_err}
use Rattle.pg_map.proofs.Moved.{moved_all, moved_one}
use Rattle.pg_trace.proofs.beginnings.each_begun.Goals as goal

pub loop-id-preserved : goal.loop-id-preserved
loop-id-preserved g c =
    let before = c.loop-id.all.items in
    moved_one before c.next.new.self.rest.items c.in-Some.ensures.steps.0 c.loop-id.invariant
    (c.in_ok-push.ensures.items ∙ ap (λ x. before ++ (c.in-Some.id, x) ∷ []) c.in_ok-begun_if_any.ensures)

pub returns : goal.returns
returns g c =
    let produced = c.loop-id.id-iterator.rest in
    moved_all c.loop-id.all.items (nil_from_length produced.items (sym produced.ok.0 ∙ c.in-None.ensures.steps.0)) c.loop-id.invariant

pub loop-id-init : goal.loop-id-init
loop-id-init g c =
    let start = c.into_iter-id-iterator in
    ap (λ l. l ++ start.result.rest.items) c.in_ok-all.ensures.items ∙ start.ensures.into_iter_gives.0

pub returns-in_err-all : goal.returns-in_err-all
returns-in_err-all g c = IfOk-from_err c.from_residual.result _ c.from_residual.ensures.0

pub returns-in_err-begun_if_any : goal.returns-in_err-begun_if_any
returns-in_err-begun_if_any g c = IfOk-from_err c.from_residual-in_err-begun_if_any.result _ c.from_residual-in_err-begun_if_any.ensures.0

pub returns-in_err-push : goal.returns-in_err-push
returns-in_err-push g c = IfOk-from_err c.from_residual-in_err-push.result _ c.from_residual-in_err-push.ensures.0
