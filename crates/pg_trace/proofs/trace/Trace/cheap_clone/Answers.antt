use Rattle.std.proofs.Common.{ap₂, sym, ◌∙◌, subst₂}
use Rattle.std.proofs.lemmas.Result.{IfOk-from_err}
use Rattle.pg_trace_index.specs.Occurrences.{IsIndex}
use Rattle.pg_trace.proofs.Changed.{trace_of}
use Rattle.pg_trace.proofs.trace.Trace.cheap_clone.Goals as goal

pub invariant_of-result : goal.invariant_of-result
invariant_of-result g c =
    subst₂ (λ records ran. IsIndex records ran) (sym (c.in_ok-supersteps.ensures ∙ c.as_slice.ensures.value)) (sym c.in_ok-ran.ensures) c.self.invariant

pub returns : goal.returns
returns g c = ap₂ trace_of c.in_ok-initial.ensures (c.in_ok-supersteps.ensures ∙ c.as_slice.ensures.value) ∙ c.self.view_is

pub returns-in_err-initial : goal.returns-in_err-initial
returns-in_err-initial g c = IfOk-from_err c.from_residual.result _ c.from_residual.ensures.0

pub returns-in_err-supersteps : goal.returns-in_err-supersteps
returns-in_err-supersteps g c = IfOk-from_err c.from_residual-in_err-supersteps.result _ c.from_residual-in_err-supersteps.ensures.0

pub returns-in_err-ran : goal.returns-in_err-ran
returns-in_err-ran g c = IfOk-from_err c.from_residual-in_err-ran.result _ c.from_residual-in_err-ran.ensures.0
