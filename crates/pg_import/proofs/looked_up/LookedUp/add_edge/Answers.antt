use Rattle.pg_import.specs.Batch.{has_edge}
use Rattle.pg_import.proofs.looked_up.LookedUp.add_edge.Goals as goal

pub invariant_of-self-2 : goal.invariant_of-self-2
invariant_of-self-2 c =
    let graph = c.self.inside.sources in
    let had = c.self.invariant in
    rw c.has_edge-there.ensures.same (had.0, c.in_ok-add.ensures.ok (λ source target. has_edge source target graph) c.has_edge-there.ensures.value had.1)
