use Rattle.pg_inbox_bundles.proofs.Counted.{none_undeliverable}
use Rattle.pg_inbox_bundles.proofs.counting.undeliverable_sent.Goals as goal

pub returns-then-are_to_vertices : goal.returns-then-are_to_vertices
returns-then-are_to_vertices g c = none_undeliverable c.args.graph.now c.args.envelopes.now (c.are_to_vertices.ensures c.if-are_to_vertices.true)
