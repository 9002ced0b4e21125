use Rattle.std.proofs.Common.{◌<◌, [], ap, sym, ◌∙◌, subst₂, length, slice_index_or, arith}
use Rattle.std.specs.List.{slice_get}
use Rattle.pg_part_routing.specs.Sending.{IsFresh, items_to, sends_by_records}
use Rattle.pg_part_routing.proofs.sent.recorded_bundles.Goals as goal

pub returns-clause-to_each : goal.returns-clause-to_each
returns-clause-to_each g c =
    ap length c.of.ensures ∙ (c.in_ok-bundles.ensures.len ∙ (ap length c.as_slice-2.ensures.value ∙ c.in_ok-sends.ensures.len))

pub returns-clause-sends : goal.returns-clause-sends
returns-clause-sends g c q below =
    let step_input = c.as_slice-2.result.now in
    let same = c.as_slice-2.ensures.value in
    let long = ap length same in
    let within : q < length step_input = omega (arith, below, c.in_ok-sends.ensures.len, long) in
    let records_are = c.as_slice.ensures.value ∙ c.in_ok-records.ensures.records in
    subst₂ (λ sends bundles. IsFresh (g.C.MessageCombiner.combining c.args.combiner.now) sends (slice_get bundles q))
    (ap (λ l. slice_index_or l q []) same
    ∙ (c.in_ok-sends.ensures.parts q below ∙ ap (λ l. items_to c.args.partitions q (sends_by_records l)) records_are)) (sym c.of.ensures)
    (c.in_ok-bundles.ensures.bundles q within)
