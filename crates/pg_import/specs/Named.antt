-- What the lines of a list mention, and what of it is there by now.
use Rattle.std.specs.Prelude.{◌≡◌, ℕ, true}
use Rattle.pg_graph.specs.Rows.{Rows}
use Rattle.pg_import.specs.Batch.{has_edge, has_vertex}
use Rattle.pg_import.specs.NamedEdges.{there_in}
use Rattle.pg_import.specs.declared.batch.Named.{Named}

-- a graph that has just what the entries say, and of what has no entry what the first graph has; a vertex is the edge
-- to itself. It keeps the vertices of the first graph
pub record Shows (graph : Rows) (named : Named) (rows : Rows) : Type 0 where
  pub vertices : (id : ℕ) → has_vertex id rows ≡ there_in id id (has_vertex id graph) named.vertices
  pub edges : (source target : ℕ)
      → has_edge source target rows ≡ there_in source target (has_edge source target graph) named.edges
  pub kept : (id : ℕ) → has_vertex id graph ≡ true → has_vertex id rows ≡ true
