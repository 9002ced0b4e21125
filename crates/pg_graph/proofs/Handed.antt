-- Lemmas of a place in an edge list, handed on to whoever changes one.
pub use Rattle.pg_graph_rows.proofs.AtPlace.{rises_inserted, rises_removed, rises_written, searched}
