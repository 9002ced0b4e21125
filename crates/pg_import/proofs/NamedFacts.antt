-- What was named so far shows the graph with it.
use Rattle.std.proofs.Common.{◌≡◌, ℕ, ◌&&◌, Bool, true, false, cond, List, refl, ◌∙◌}
use Rattle.std.specs.BTreeMap.{is_at}
use Rattle.std.specs.Ordering.{nat_cmp}
use Rattle.pg_graph.specs.Rows.{Rows}
use Rattle.pg_import.proofs.Graphs.{cond-true, has_edge-with_line_edge, has_edge-with_vertex, has_vertex-with_line_edge, has_vertex-with_vertex, with_vertex-there}
use Rattle.pg_import.specs.Batch.{has_edge, has_vertex, with_line_edge, with_vertex}
use Rattle.pg_import.specs.Named.{Shows}
use Rattle.pg_import.specs.NamedEdges.{there_in}
use Rattle.pg_import.specs.declared.named_edges.NamedEdge.{NamedEdge}
use Rattle.pg_import.specs.declared.batch.Named.{Named}
use Rattle.pg_import.specs.declared.line.Line.{Line}

and-same : (b : Bool) → (b && b) ≡ b
and-same true = refl
and-same false = refl

-- a vertex that is there from now on
pub Shows-vertex : (graph : Rows) (named : Named) (vertices : List NamedEdge) (rows : Rows) (id : ℕ) → Shows graph named rows
    → ((s t : ℕ) (o : Bool) → there_in s t o vertices ≡ cond (is_at (nat_cmp id) s && is_at (nat_cmp id) t) true (there_in s t o named.vertices))
    → Shows graph (record named { vertices = vertices }) (with_vertex id rows)
Shows-vertex graph named vertices rows id shows put = record {
  vertices = λ q. has_vertex-with_vertex rows id q
      ∙ rw (shows.vertices q, put q q (has_vertex q graph), and-same (is_at (nat_cmp id) q)) refl;
  edges = λ s t. has_edge-with_vertex rows id s t ∙ shows.edges s t;
  kept = λ q there. has_vertex-with_vertex rows id q ∙ rw (shows.kept q there) (cond-true (is_at (nat_cmp id) q));
}

-- a vertex that the first graph has is there
pub Shows-kept : (graph : Rows) (named : Named) (rows : Rows) (id : ℕ) → Shows graph named rows → has_vertex id graph ≡ true
    → Shows graph named (with_vertex id rows)
Shows-kept graph named rows id shows there = rw (with_vertex-there rows id (shows.kept id there)) shows

-- an edge that is there from now on
pub Shows-edge : (graph : Rows) (named : Named) (edges : List NamedEdge) (rows : Rows) (line : Line) → Shows graph named rows
    → has_vertex line.source rows ≡ true
    → ((s t : ℕ) (o : Bool) → there_in s t o edges
    ≡ cond (is_at (nat_cmp line.source) s && is_at (nat_cmp line.target) t) true (there_in s t o named.edges))
    → Shows graph (record named { edges = edges }) (with_line_edge line rows)
Shows-edge graph named edges rows line shows source put = record {
  vertices = λ q. has_vertex-with_line_edge line rows q source ∙ shows.vertices q;
  edges = λ s t. has_edge-with_line_edge line rows s t source ∙ rw (shows.edges s t, put s t (has_edge s t graph)) refl;
  kept = λ q there. has_vertex-with_line_edge line rows q source ∙ shows.kept q there;
}
