use Rattle.std.proofs.Common.{length, ap, sym, ◌∙◌}
use Rattle.pg_inbox_bundles.proofs.Sending.{length-sends_in}
use Rattle.pg_inbox_bundles.proofs.outbox.OutboxRef.len.Goals as goal

pub returns : goal.returns
returns g c = sym (length-sends_in c.self.inside.senders.now c.self.inside.sent.now c.self.invariant) ∙ ap length c.self.view_is
