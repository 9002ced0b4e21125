use Rattle.std.proofs.Common.{true, ap, ◌∙◌}
use Rattle.std.proofs.lemmas.Result.{IfOk-weaker}
use Rattle.pg_inbox_bundles.specs.Counting.{messages_where}
use Rattle.pg_inbox_bundles.proofs.bundles.Bundle.messages_counted.Goals as goal

pub returns : goal.returns
returns g c =
    IfOk-weaker c.messages_listed.result _ _ (λ count is. is ∙ ap (messages_where (λ _. true)) (c.as_slice.ensures.value ∙ c.in_ok-message_lists.ensures.message_lists))
    c.messages_listed.ensures
