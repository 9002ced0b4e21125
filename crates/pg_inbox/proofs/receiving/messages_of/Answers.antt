use Rattle.std.proofs.Common.{ℕ, [], ◌∷◌, ◌++◌, ap, append_assoc, sym, ◌∙◌}
use Rattle.std.proofs.lemmas.List.{nil_from_length}
use Rattle.pg_map.proofs.Filling.{mapped_taken}
use Rattle.pg_map.proofs.Moved.{moved_all}
use Rattle.pg_inbox_messages.specs.Contents.{messages}
use Rattle.pg_inbox.proofs.receiving.messages_of.Goals as goal

pub loop-message-init : goal.loop-message-init
loop-message-init g c = record { so_far = c.in_ok-inbox.ensures.items; whole = c.into_iter-message-iterator.ensures.into_iter_gives.0 }

pub loop-message-preserved : goal.loop-message-preserved
loop-message-preserved g c =
    let yielded = c.loop-message.yielded in
    let envelope : ℕ × g.row.M.Denot = (c.in-Some.field-0-0, c.in-Some.message) in
    record {
      so_far = mapped_taken (λ l. l.1) yielded envelope c.loop-message.invariant.so_far c.in_ok-push.ensures.items;
      whole = append_assoc yielded (envelope ∷ []) c.next.new.self.rest.items
          ∙ ap (λ l. yielded ++ l) (sym c.in-Some.ensures.steps.0) ∙ c.loop-message.invariant.whole;
    }

pub returns : goal.returns
returns g c =
    let remaining = c.loop-message.message-iterator.rest in
    c.loop-message.invariant.so_far
    ∙ ap messages
    (moved_all c.loop-message.yielded (nil_from_length remaining.items (sym remaining.ok.0 ∙ c.in-None.ensures.steps.0)) c.loop-message.invariant.whole)
