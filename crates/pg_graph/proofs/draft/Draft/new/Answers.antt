use Rattle.std.proofs.Common.{arith, ap}
use Rattle.pg_map.specs.Entries.{with_changes}
use Rattle.pg_graph.specs.Rows.{vertex_count, edge_count}
use Rattle.pg_graph.proofs.draft.Draft.new.Goals as goal

pub invariant_of-result : goal.invariant_of-result
invariant_of-result c =
    let same = ap (λ changes. with_changes changes c.args.graph.now) c.new.ensures.empty in
    record {
      graph_rises = c.vertices.ensures.rising;
      changes_rise = c.new.ensures.ordered;
      vertices_counted = omega (arith, c.vertices.ensures.value, ap vertex_count same);
      edges_counted = omega (arith, c.edges.ensures.value, ap edge_count same);
      vertices_fit = c.vertices.ensures.limit;
      edges_fit = c.edges.ensures.limit;
    }
