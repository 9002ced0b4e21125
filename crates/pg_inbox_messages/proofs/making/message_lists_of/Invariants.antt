use Rattle.std.proofs.Common.{◌≡◌, ◌++◌, IfSome, length}
use Rattle.std.specs.List.{AllByRecursion}
use Rattle.pg_inbox_messages.specs.Contents.{Holds, as_changes, message_lists_of}
use Rattle.pg_inbox_messages.specs.Grouping.{groups_of}
use Rattle.pg_inbox_messages.proofs.making.message_lists_of.Given as goal

abbrev pub invariant-loop-target : goal.invariant-loop-target
invariant-loop-target g l =
    let message_lists = message_lists_of (g.C.MessageCombiner.combining l.combiner) in
    record {
      contents : l.message_lists.items ++ as_changes (message_lists (groups_of l.remaining)) ≡ as_changes (message_lists (groups_of l.envelopes));
      hold : AllByRecursion (λ p. IfSome p.1 (Holds g.M.Plain.is_value)) l.message_lists.items;
    }

abbrev pub decreases-loop-target : goal.decreases-loop-target
decreases-loop-target g l = length l.remaining
