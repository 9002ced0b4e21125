use Rattle.std.proofs.Common.{ap, ◌∙◌}
use Rattle.std.proofs.lemmas.Result.{IfOk-weaker}
use Rattle.pg_inbox.specs.Inboxes.{each_inbox}
use Rattle.pg_inbox.proofs.receivers.inboxes_changed.Goals as goal

pub returns : goal.returns
returns g c =
    IfOk-weaker c.inboxes_listed.result _ _ (λ inboxes is. is ∙ ap each_inbox (c.as_slice.ensures.value ∙ c.in_ok-message_lists.ensures.message_lists)) c.inboxes_listed.ensures
