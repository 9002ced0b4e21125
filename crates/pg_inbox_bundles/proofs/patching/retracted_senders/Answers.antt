use Rattle.std.proofs.Common.{ap, ◌∙◌}
use Rattle.pg_model.specs.Superstep.{has_id}
use Rattle.pg_model.proofs.LawsListed.{ordered-rising, ordered-same}
use Rattle.pg_inbox_bundles.proofs.patching.retracted_senders.Goals as goal

pub returns-clause-rise : goal.returns-clause-rise
returns-clause-rise g c =
    ordered-rising c.in_ok-senders.senders.items c.sort_unstable.new.self.items c.dedup.new.self.items c.sort_unstable.ensures.permutation
    c.dedup.ensures.filtered c.sort_unstable.ensures.sorted

pub returns-clause-same : goal.returns-clause-same
returns-clause-same g c id =
    ordered-same c.in_ok-senders.senders.items c.sort_unstable.new.self.items c.dedup.new.self.items c.sort_unstable.ensures.permutation c.dedup.ensures.filtered id
    ∙ ap (λ l. has_id l id) c.in_ok-senders.ensures
