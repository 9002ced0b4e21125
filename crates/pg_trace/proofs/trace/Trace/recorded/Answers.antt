use Rattle.std.proofs.Common.{◌≤◌, length, sym, ap, ◌∙◌, subst, arith}
use Rattle.pg_trace_index.specs.Occurrences.{IsIndex}
use Rattle.pg_trace_index.proofs.InPlace.{index-put}
use Rattle.pg_trace_index.proofs.Last.{index_rises}
use Rattle.pg_trace_index.proofs.Noting.{stated_alike}
use Rattle.pg_trace_records.specs.RecordChanges.{given_flags}
use Rattle.pg_trace_records.proofs.Changed.{stated_rise}
use Rattle.pg_trace.proofs.Changed.{one_put}
use Rattle.pg_trace.proofs.trace.Trace.recorded.Goals as goal

pub noted-requires-clause-steps : goal.noted-requires-clause-steps
noted-requires-clause-steps g c = index_rises c.self.inside.supersteps.items c.self.inside.ran c.self.invariant

pub noted-requires-clause-rise : goal.noted-requires-clause-rise
noted-requires-clause-rise g c =
    stated_rise c.as_slice.result.now c.args.changes (ap given_flags c.as_slice.ensures.value ∙ c.in_ok-places.ensures) c.requires.rise

pub invariant_of-result : goal.invariant_of-result
invariant_of-result g c =
    let rs = c.self.inside.supersteps.items in
    let n = c.number-number.result in
    let given = c.as_slice.result.now in
    let within : n ≤ length rs = let w = c.requires.within in let e = c.number-number.ensures in let v = ap
    (λ t. length t.records) c.self.view_is in omega (arith, w, e, v) in
    subst (λ l. IsIndex l c.in_ok-ran.ran) (sym c.in_ok-supersteps.ensures.put)
    (index-put rs n given c.args.changes c.self.inside.ran c.in_ok-ran.ran within c.requires.rise c.in_ok-supersteps.ensures.rising
    (stated_alike given c.args.changes (ap given_flags c.as_slice.ensures.value ∙ c.in_ok-places.ensures)) c.self.invariant c.in_ok-ran.ensures)

pub returns : goal.returns
returns g c =
    one_put c.args.superstep c.number-number.result c.args.changes c.self.view_is c.number-number.ensures c.in_ok-supersteps.ensures.put
