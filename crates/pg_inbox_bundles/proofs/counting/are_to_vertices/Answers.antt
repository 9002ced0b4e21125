use Rattle.std.proofs.Common.{IsSome}
use Rattle.pg_graph.specs.Rows.{row_at}
use Rattle.pg_inbox_bundles.proofs.Counted.{all_between}
use Rattle.pg_inbox_bundles.proofs.counting.are_to_vertices.Goals as goal

pub returns-in-Some-Some : goal.returns-in-Some-Some
returns-in-Some-Some g c stated =
    all_between (λ id. IsSome (row_at id c.args.graph.now)) c.args.envelopes.now c.in-Some-Some.first.now c.in-Some-Some.last.now c.requires
    c.in-Some-Some.ensures.value c.in-Some-Some.ensures'.value (c.has_all.ensures stated)
