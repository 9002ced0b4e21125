use Rattle.std.proofs.Common.{◌≡◌, ◌++◌, ◌≤◌, ◌-◌, drop, length}
use Rattle.pg_inbox_messages.specs.Grouping.{groups_of}
use Rattle.pg_inbox.specs.Inboxes.{inboxes_of}
use Rattle.pg_inbox.proofs.receivers.inboxes_of.Given as goal

abbrev pub invariant-loop-done : goal.invariant-loop-done
invariant-loop-done g l =
    let inboxes = inboxes_of (g.C.MessageCombiner.combining l.combiner) in
    record {
      within : l.done ≤ length l.message_lists;
      inboxes : l.inboxes ++ inboxes (groups_of (drop l.done l.message_lists)) ≡ inboxes (groups_of l.message_lists);
    }

abbrev pub decreases-loop-done : goal.decreases-loop-done
decreases-loop-done g l = length l.message_lists - l.done
