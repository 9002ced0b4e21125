use Rattle.std.proofs.Common.{map, ap, ◌∙◌}
use Rattle.pg_inbox_bundles.proofs.Sending.{targets_in}
use Rattle.pg_inbox_bundles.proofs.outbox.OutboxRef.with_targets.Goals as goal

pub returns : goal.returns
returns g c = targets_in c.self.inside.senders.now c.self.inside.sent.now c.self.invariant ∙ ap (map (λ s. s.1)) c.self.view_is
