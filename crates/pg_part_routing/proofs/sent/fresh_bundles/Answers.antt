use Rattle.std.proofs.Common.{◌<◌, ◌++◌, ◌∷◌, [], Some, IfSome, ap, sym, ◌∙◌, map, subst, subst₂, length, slice_index_or, arith}
use Rattle.std.specs.List.{flat_map, slice_get}
use Rattle.pg_part_routing.specs.Sending.{IsFresh, sends_of}
use Rattle.pg_part_routing.proofs.Outbox.{fresh_cold}
use Rattle.pg_part_routing.proofs.sent.fresh_bundles.Goals as goal

pub returns-clause-to_each : goal.returns-clause-to_each
returns-clause-to_each g c =
    ap length c.of-2.ensures ∙ (c.in_ok-bundles-2.ensures.len ∙ (ap length c.as_slice.ensures.value ∙ c.in_ok-parts.ensures.len))

pub returns-clause-sends : goal.returns-clause-sends
returns-clause-sends g c q below =
    let step_input = c.as_slice.result.now in
    let same = c.as_slice.ensures.value in
    let long = ap length same in
    let within : q < length step_input = omega (arith, below, c.in_ok-parts.ensures.len, long) in
    subst₂ (λ sends bundles. IsFresh (g.C.MessageCombiner.combining c.args.combiner.now) sends (slice_get bundles q))
    (ap (λ l. slice_index_or l q []) same ∙ c.in_ok-parts.ensures.parts q below) (sym c.of-2.ensures)
    (c.in_ok-bundles-2.ensures.bundles q within)

pub returns-in-Some-clause-sends : goal.returns-in-Some-clause-sends
returns-in-Some-clause-sends g c q below =
    let combining = g.C.MessageCombiner.combining c.args.combiner.now in
    let items = flat_map sends_of c.args.changes.now in
    let logged = c.in-Some.logged in
    let one = sym c.partitions.ensures.value ∙ c.if-partitions-eq1.true in
    let only = c.of.ensures ∙ c.in_ok-push.ensures.items ∙ ap (λ l. l ++ logged ∷ []) c.in_ok-bundles.ensures.items in
    fresh_cold combining c.args.partitions q one below items logged c.of.result only
    (subst (λ o. IfSome o (λ l. IsFresh combining (map (λ i. i.1) items) (Some l))) c.in-Some.is c.in_ok-logged.ensures)
