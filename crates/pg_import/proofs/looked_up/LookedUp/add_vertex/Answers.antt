use Rattle.std.proofs.Common.{is_some, ap, sym, ◌∙◌}
use Rattle.pg_import.specs.Batch.{has_vertex}
use Rattle.pg_import.proofs.looked_up.LookedUp.add_vertex.Goals as goal

pub invariant_of-self-2 : goal.invariant_of-self-2
invariant_of-self-2 c =
    let graph = c.self.inside.sources in
    let had = c.self.invariant in
    let known = sym c.if-is_there.false ∙ c.is_there.ensures ∙ ap is_some c.row_at.ensures.row in
    rw c.row_at.ensures.same (c.in_ok-add.ensures.ok (λ id _. has_vertex id graph) known had.0, had.1)
