use Rattle.std.proofs.Common.{take, ap, sym, ◌∙◌, subst}
use Rattle.pg_trace_index.specs.Occurrences.{IsIndex}
use Rattle.pg_trace.specs.Trace.{first_supersteps}
use Rattle.pg_trace.proofs.Changed.{trace_of}
use Rattle.pg_trace.proofs.trace.Trace.cut.Goals as goal

pub cut_index-requires-clause-index : goal.cut_index-requires-clause-index
cut_index-requires-clause-index g c = subst (λ l. IsIndex l c.self.inside.ran) (sym c.as_slice.ensures.value) c.self.invariant

pub invariant_of-self : goal.invariant_of-self
invariant_of-self g c =
    subst (λ l. IsIndex l c.in_ok-ran.ran) (ap (take c.number-len.result) c.as_slice.ensures.value ∙ sym c.truncate.ensures.items) c.in_ok-ran.ensures

pub returns-clause-ok : goal.returns-clause-ok
returns-clause-ok g c =
    ap (trace_of c.self.inside.initial) (c.truncate.ensures.items ∙ ap (λ n. take n c.self.inside.supersteps.items) c.number-len.ensures)
    ∙ ap (first_supersteps c.args.supersteps) c.self.view_is
