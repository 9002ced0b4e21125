use Rattle.std.proofs.Common.{ℕ, [], ◌∷◌, ◌++◌, map, append_assoc, ap, sym, ◌∙◌, arith}
use Rattle.std.proofs.lemmas.List.{append-nil, nil_from_length}
use Rattle.std.proofs.lemmas.Result.{IfOk-from_err}
use Rattle.pg_model.specs.declared.configuration.VertexWithInbox.{VertexWithInbox}
use Rattle.pg_scratch.proofs.runner.values_of.Goals as goal

abbrev value_of : {V M : Type 0} → VertexWithInbox V M → ℕ × V
value_of x = (x.state.id, x.state.value)

pub loop-with_inbox-init : goal.loop-with_inbox-init
loop-with_inbox-init g c =
    ap (λ l. l ++ map value_of c.into_iter-with_inbox-iterator.result.rest.items) c.in_ok-values.ensures.items
    ∙ ap (map value_of) c.into_iter-with_inbox-iterator.ensures.into_iter_gives.0

pub loop-with_inbox-preserved : goal.loop-with_inbox-preserved
loop-with_inbox-preserved g c =
    let items = c.loop-with_inbox.values.items in
    let rest = map value_of c.next.new.self.rest.items in
    ap (λ l. l ++ rest) c.in_ok-push.ensures.items
    ∙ append_assoc items (value_of c.in-Some.with_inbox ∷ []) rest
    ∙ sym (ap (λ l. items ++ map value_of l) c.in-Some.ensures.steps.0)
    ∙ c.loop-with_inbox.invariant

pub returns : goal.returns
returns g c =
    let items = c.loop-with_inbox.values.items in
    let rest = c.loop-with_inbox.with_inbox-iterator.rest in
    let none = nil_from_length rest.items (omega (arith, c.in-None.ensures.steps.0, rest.ok.0)) in
    c.from_vec.ensures ∙ sym (append-nil items) ∙ sym (ap (λ l. items ++ map value_of l) none) ∙ c.loop-with_inbox.invariant

pub returns-in_err-values : goal.returns-in_err-values
returns-in_err-values g c = IfOk-from_err c.from_residual.result _ c.from_residual.ensures.0

pub returns-in_err-push : goal.returns-in_err-push
returns-in_err-push g c = IfOk-from_err c.from_residual-in_err-push.result _ c.from_residual-in_err-push.ensures.0
