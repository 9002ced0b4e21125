use Rattle.std.proofs.Common.{◌++◌, ap, ◌∙◌}
use Rattle.pg_inbox.proofs.receivers.add_message_lists.Goals as goal

pub returns-clause-items : goal.returns-clause-items
returns-clause-items g c = c.in_ok-append.ensures.items ∙ ap (λ l. c.args.all.now.items ++ l) c.in_ok-message_lists.ensures.message_lists
