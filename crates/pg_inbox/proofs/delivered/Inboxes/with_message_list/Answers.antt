use Rattle.std.proofs.Common.{◌++◌, ◌∷◌, [], ap, ◌∙◌}
use Rattle.std.proofs.lemmas.Result.{IfOk-weaker}
use Rattle.pg_inbox_messages.specs.Contents.{messages}
use Rattle.pg_inbox_bundles.specs.Ordered.{in_order}
use Rattle.pg_inbox.proofs.Parting.{added}
use Rattle.pg_inbox.proofs.delivered.Inboxes.with_message_list.Goals as goal

pub returns : goal.returns
returns g c =
    let before = c.self.inside.messages.items in
    let more = messages (in_order c.args.message_list.now.envelopes) in
    IfOk-weaker c.ended.result _ _ (λ inboxes is.
    is ∙ added before more c.self.inside.parts.items c.args.id c.self.invariant c.in_ok-add_by_sender.ensures (c.len-first.ensures ∙ c.self.inside.messages.ok.0)
    ∙ ap (λ l. l ++ (c.args.id, more) ∷ []) c.self.view_is) c.ended.ensures
