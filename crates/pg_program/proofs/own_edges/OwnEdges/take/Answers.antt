use Rattle.std.proofs.Common.{◌≡◌, true, false, ◌∙◌}
use Rattle.pg_program.proofs.Cleared.{rises-cleared}
use Rattle.pg_program.proofs.own_edges.OwnEdges.take.Goals as goal

pub invariant_of-self : goal.invariant_of-self
invariant_of-self c = (rises-cleared _ (c.reserve.ensures.items ∙ c.clear.ensures.items), λ (wrong : true ≡ false). cc)
