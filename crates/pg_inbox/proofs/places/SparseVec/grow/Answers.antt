use Rattle.std.proofs.Common.{ap, ◌∙◌}
use Rattle.pg_inbox.specs.SparseVec.{value_in}
use Rattle.pg_inbox.proofs.AtPlaces.{value_in-push}
use Rattle.pg_inbox.proofs.places.SparseVec.grow.Goals as goal

pub loop-self-preserved : goal.loop-self-preserved
loop-self-preserved g c other =
    ap (value_in other) c.in_ok-push.ensures.items ∙ (value_in-push other c.loop-self.self-inside.values.items ∙ c.loop-self.invariant other)
