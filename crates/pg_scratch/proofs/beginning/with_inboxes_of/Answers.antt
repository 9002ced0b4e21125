use Rattle.std.proofs.Common.{[], ◌∷◌, ◌++◌, ap, map, sym, ◌∙◌}
use Rattle.std.proofs.lemmas.List.{append-nil, append_assoc}
use Rattle.std.proofs.lemmas.Result.{IfOk-from_err}
use Rattle.pg_model.specs.Run.{beginning}
use Rattle.pg_scratch.proofs.beginning.with_inboxes_of.Goals as goal

pub loop-id-preserved : goal.loop-id-preserved
loop-id-preserved g c =
    let begins = beginning (g.P.Computation.program c.args.program.now) in
    let items = c.loop-id.with_inboxes.items in
    let rest = map begins c.next.new.self in
    ap (λ l. l ++ rest) c.in_ok-push.ensures.items
    ∙ append_assoc items (_ ∷ []) rest
    ∙ ap (λ x. items ++ x ∷ rest) c.in_ok-with_inbox_of.ensures
    ∙ sym (ap (λ l. items ++ map begins l) c.in-Some.ensures.steps)
    ∙ c.loop-id.invariant

pub returns : goal.returns
returns g c =
    let begins = beginning (g.P.Computation.program c.args.program.now) in
    let items = c.loop-id.with_inboxes.items in
    sym (append-nil items) ∙ sym (ap (λ l. items ++ map begins l) c.in-None.ensures.steps.0) ∙ c.loop-id.invariant

pub returns-in_err-with_inboxes : goal.returns-in_err-with_inboxes
returns-in_err-with_inboxes g c = IfOk-from_err c.from_residual.result _ c.from_residual.ensures.0

pub returns-in_err-with_inbox_of : goal.returns-in_err-with_inbox_of
returns-in_err-with_inbox_of g c = IfOk-from_err c.from_residual-in_err-with_inbox_of.result _ c.from_residual-in_err-with_inbox_of.ensures.0

pub returns-in_err-push : goal.returns-in_err-push
returns-in_err-push g c = IfOk-from_err c.from_residual-in_err-push.result _ c.from_residual-in_err-push.ensures.0
