use Rattle.std.proofs.Common.{◌≡◌, Some, IfSome, ap, map, subst, ◌∙◌}
use Rattle.std.specs.List.{flat_map, zip}
use Rattle.pg_inbox.specs.Handed.{as_send, sends_in}
use Rattle.pg_trace.specs.Handed.{messages_by}
use Rattle.pg_part_routing.specs.Sending.{IsFresh}
use Rattle.pg_part_routing.proofs.Outbox.{all_sends}
use Rattle.pg_part_routing.proofs.sent.fresh_of_all.Goals as goal

pub returns-in_ok-fresh-in-Some : goal.returns-in_ok-fresh-in-Some
returns-in_ok-fresh-in-Some g c =
    let changes = c.args.changes.now in
    let sent = c.in-Some.sent.now in
    let stated = subst (λ o. IfSome o (λ a. zip a.0.items a.1.now ≡ flat_map messages_by changes)) c.in-Some.is c.in_ok-senders.ensures.sent in
    subst (λ l. IsFresh (g.C.MessageCombiner.combining c.args.combiner.now) l (Some c.in_ok-fresh-in-Some.field-0))
    (c.of-sends.ensures ∙ ap (λ s. sends_in s sent) c.as_slice.ensures.value ∙ ap (map as_send) stated ∙ all_sends changes) c.in_ok-fresh-in-Some.ensures
