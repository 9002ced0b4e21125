use Rattle.std.proofs.Common.{◌≡◌, take}
use Rattle.pg_inbox.specs.Inboxes.{each_inbox}
use Rattle.pg_inbox.proofs.receivers.inboxes_listed.Given as goal

abbrev pub invariant-loop-target : goal.invariant-loop-target
invariant-loop-target g l = l.inboxes ≡ each_inbox (take l.target-index l.message_lists)
