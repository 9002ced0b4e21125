use Rattle.std.proofs.Common.{◌≡◌, ◌∙◌, ◌++◌, ap, arith, drop, length, map, take}
use Rattle.std.specs.List.{flat_map}
use Rattle.std.specs.Map.{keys_of}
use Rattle.pg_checkpoint.specs.Bytes.{superstep_coding}
use Rattle.pg_checkpoint.specs.Records.{edges_behind}
use Rattle.pg_checkpoint.proofs.Counting.{edges_are, those_taken}
use Rattle.pg_checkpoint.proofs.Header.{same_framed, written}
use Rattle.pg_stats.specs.VertexCounts.{states_among}
use Rattle.pg_stats.specs.Stats.{vertex_counts_of}
use Rattle.pg_checkpoint.proofs.checkpoint.bytes_of.Goals as goal

pub returns-clause-bytes : goal.returns-clause-bytes
returns-clause-bytes g c =
    let part_run = c.args.part.now.part_run in
    let xs = part_run.trace.records in
    let place = part_run.place in
    let n = c.own_supersteps-supersteps.result in
    let coding = superstep_coding g.V.Coded.coding g.M.Coded.coding in
    let body = flat_map coding (take n c.trace-trace.result.now.records) in
    let edges : c.in_ok-edges.field-0.edges ≡ edges_behind part_run.trace.initial (take place xs) =
    ap (λ x. x.edges) c.in_ok-edges.ensures
    ∙ ap (λ k. (vertex_counts_of (states_among k c.as_slice.result.now c.trace-trace.result.now)).edges) c.new.ensures
    ∙ ap (λ t. (vertex_counts_of (states_among n c.as_slice.result.now t)).edges) c.trace-trace.ensures
    ∙ ap (λ l. (vertex_counts_of (states_among n l part_run.trace)).edges) c.as_slice.ensures.value
    ∙ edges_are part_run.trace.initial xs place n c.in_ok-ids.ids.items c.rising-ids.result.items c.own_supersteps-supersteps.ensures
    (c.in_ok-ids.ensures.ids ∙ ap (λ t. map (λ x. x.id) t.initial ++ flat_map keys_of (take n t.records)) c.trace-trace.ensures)
    c.rising-ids.ensures.rise c.rising-ids.ensures.same in
    let counted : c.len.result ≡ length c.put_supersteps.new.bytes.items = omega (arith, c.len.ensures, c.put_supersteps.new.bytes.ok.0) in
    written c.len.result c.args.run c.number.result n c.in_ok-edges.field-0.edges c.in_ok-bytes.bytes.items body c.in_ok-header.header.items
    c.put_supersteps.new.bytes.items c.with_front.result.items c.in_ok-bytes.ensures c.in_ok-ids.ensures.bytes counted c.in_ok-header.ensures
    (c.with_front.ensures ∙ ap (λ h. h ++ drop (length h) c.put_supersteps.new.bytes.items) c.as_slice-2.ensures.value)
    ∙ same_framed c.args.run c.number.result part_run.partition n (length (take place xs)) c.in_ok-edges.field-0.edges
    (edges_behind part_run.trace.initial (take place xs)) body (flat_map coding (take place xs)) (c.number.ensures ∙ c.partition.ensures)
    c.own_supersteps-supersteps.ensures edges
    (ap (λ t. flat_map coding (take n t.records)) c.trace-trace.ensures ∙ ap (flat_map coding) (those_taken part_run.trace.initial xs place n c.own_supersteps-supersteps.ensures))
