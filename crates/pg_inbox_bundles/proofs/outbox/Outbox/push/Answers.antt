use Rattle.std.proofs.Common.{◌++◌, ◌∷◌, [], ap, ap₂, ◌∙◌}
use Rattle.pg_inbox_bundles.specs.Outbox.{sends_in}
use Rattle.pg_inbox_bundles.proofs.Sending.{sends_in-push}
use Rattle.pg_inbox_bundles.proofs.outbox.Outbox.push.Goals as goal

pub returns : goal.returns
returns g c =
    let senders = c.self.inside.senders.items in
    let sent = c.self.inside.sent.items in
    ap₂ sends_in (c.push_reserved.ensures.items ∙ ap (λ l. l ++ c.args.sender ∷ []) c.in_ok-reserve.ensures.items) c.in_ok-push.ensures.items
    ∙ sends_in-push senders sent c.args.sender (c.args.target, c.args.message) c.self.invariant
    ∙ ap (λ l. l ++ (c.args.sender, c.args.target, c.args.message) ∷ []) c.self.view_is
