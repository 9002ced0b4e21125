use Rattle.std.proofs.Common.{◌≡◌, ◌∙◌, ap, arith, length, sym, take}
use Rattle.std.proofs.lemmas.List.{take_all}
use Rattle.pg_checkpoint.specs.Records.{edges_behind}
use Rattle.pg_checkpoint.proofs.Counting.{edges_are}
use Rattle.pg_stats.specs.VertexCounts.{states_among}
use Rattle.pg_stats.specs.Stats.{vertex_counts_of}
use Rattle.pg_checkpoint.proofs.vertex_counts.edges_of.Goals as goal

pub returns : goal.returns
returns g c =
    let trace = c.args.trace.now in
    let n = c.supersteps-supersteps.result in
    let xs = trace.records in
    let all : take n xs ≡ xs = take_all n xs (omega (arith, c.supersteps-supersteps.ensures)) in
    ap (λ x. x.edges) c.in_ok-vertex_counts.ensures
    ∙ ap (λ k. (vertex_counts_of (states_among k c.as_slice.result.now trace)).edges) c.new.ensures
    ∙ ap (λ l. (vertex_counts_of (states_among n l trace)).edges) c.as_slice.ensures.value
    ∙ edges_are trace.initial xs n n c.in_ok-ids.ids.items c.rising-ids.result.items (c.supersteps-supersteps.ensures ∙ ap length (sym all))
    c.in_ok-ids.ensures c.rising-ids.ensures.rise c.rising-ids.ensures.same
    ∙ ap (edges_behind trace.initial) all
