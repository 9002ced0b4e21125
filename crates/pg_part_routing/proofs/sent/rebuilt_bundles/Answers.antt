use Rattle.std.proofs.Common.{[], ap, sym, ◌∙◌, subst, subst₂, length, slice_index_or}
use Rattle.std.specs.List.{flat_map, slice_get}
use Rattle.pg_inbox.specs.LoggedBundle.{slot_at}
use Rattle.pg_part_routing.specs.Sending.{IsRebuilt, items_to, pairs_of, sends_of}
use Rattle.pg_part_routing.proofs.sent.rebuilt_bundles.Goals as goal

pub returns-clause-to_each : goal.returns-clause-to_each
returns-clause-to_each g c = ap length c.of.ensures ∙ c.in_ok-bundles.ensures.len

pub returns-clause-sends : goal.returns-clause-sends
returns-clause-sends g c q below =
    let n = c.args.partitions in
    let combining = g.C.MessageCombiner.combining c.args.combiner.now in
    let before = slot_at c.args.logs.now c.args.superstep c.args.from q in
    subst (λ bundles. IsRebuilt combining (items_to n q (flat_map (pairs_of c.args.old.now c.args.superstep) c.args.changes.now))
    (items_to n q (flat_map sends_of c.args.changes.now)) before (slice_get bundles q)) (sym c.of.ensures)
    (subst₂ (λ retracted added. IsRebuilt combining retracted added before (slice_get c.in_ok-bundles.bundles.items q))
    (ap (λ l. slice_index_or l q []) c.as_slice.ensures.value ∙ c.in_ok-retracted.ensures.parts q below)
    (ap (λ l. slice_index_or l q []) c.as_slice-2.ensures.value ∙ c.in_ok-added.ensures.parts q below)
    (c.in_ok-bundles.ensures.bundles q below))
