use Rattle.std.proofs.Common.{◌≡◌, IfSome, take}
use Rattle.std.specs.List.{fold}
use Rattle.pg_inbox_messages.specs.Contents.{messages}
use Rattle.pg_inbox_messages.proofs.message_list.fold_of.Given as goal

abbrev pub invariant-loop-message : goal.invariant-loop-message
invariant-loop-message g l =
    IfSome (g.C.MessageCombiner.combining l.combiner) (λ c. l.so_far ≡ fold c.combine c.initial (messages (take l.message-index l.envelopes)))
