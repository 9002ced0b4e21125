use Rattle.std.proofs.Common.{true, ap, ◌∙◌, sym}
use Rattle.pg_inbox_bundles.specs.Counting.{messages_where}
use Rattle.pg_inbox_bundles.proofs.Sent.{messages_sent}
use Rattle.pg_inbox_bundles.proofs.bundles.Bundle.messages.Goals as goal

pub returns-in-Some : goal.returns-in-Some
returns-in-Some g c = sym (messages_sent c.in-Some.envelopes.now) ∙ ap (messages_where (λ _. true)) (sym c.in-Some.ensures.message_lists)
