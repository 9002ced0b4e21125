use Rattle.std.proofs.Common.{◌≡◌, ◌+◌, drop, true}
use Rattle.pg_inbox_bundles.specs.Counting.{messages_where}
use Rattle.pg_inbox_bundles.proofs.counting.messages_listed.Given as goal

abbrev pub invariant-loop-message_list : goal.invariant-loop-message_list
invariant-loop-message_list g l = l.count + messages_where (λ _. true) (drop l.message_list-index l.message_lists) ≡ messages_where (λ _. true) l.message_lists
