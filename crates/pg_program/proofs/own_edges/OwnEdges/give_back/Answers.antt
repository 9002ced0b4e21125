use Rattle.std.proofs.Common.{◌≡◌, true, false}
use Rattle.pg_program.proofs.Cleared.{rises-cleared}
use Rattle.pg_program.proofs.own_edges.OwnEdges.give_back.Goals as goal

pub invariant_of-self : goal.invariant_of-self
invariant_of-self c = (rises-cleared _ c.clear.ensures.items, λ (wrong : true ≡ false). cc)
