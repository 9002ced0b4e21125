use Rattle.std.proofs.Common.{◌≤◌, [], length, ap, subst, get_or, arith}
use Rattle.pg_map.specs.Entries.{HasRisingIds}
use Rattle.pg_trace_index.proofs.Noting.{rises_past}
use Rattle.pg_trace.proofs.trace.Trace.unhalted_after.Goals as goal

pub returns-in-None-clause-rising : goal.returns-in-None-clause-rising
returns-in-None-clause-rising g c =
    let rs = c.self.inside.supersteps.items in
    let lens = ap length c.deref.ensures.value in
    let past = c.in-None.ensures.lookup.3 in
    let within : length rs ≤ c.args.superstep = omega (arith, lens, past, c.number.ensures) in
    subst (λ l. HasRisingIds (get_or l c.args.superstep [])) (ap (λ t. t.records) c.self.view_is) (rises_past rs c.args.superstep within)
