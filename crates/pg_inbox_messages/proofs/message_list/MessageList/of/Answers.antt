use Rattle.std.proofs.Common.{subst, sym}
use Rattle.pg_inbox_messages.specs.Contents.{Holds}
use Rattle.pg_inbox_messages.proofs.message_list.MessageList.of.Goals as goal

pub invariant_of-result : goal.invariant_of-result
invariant_of-result g c = subst (Holds g.M.Plain.is_value) (sym c.in_ok-repr.ensures) c.requires
