use Rattle.std.proofs.Common.{◌≡◌, ◌++◌, length}
use Rattle.std.specs.List.{AllByRecursion}
use Rattle.pg_inbox_messages.specs.Grouping.{groups_of}
use Rattle.pg_inbox_bundles.specs.Holding.{HoldsAt}
use Rattle.pg_inbox_bundles.specs.MessageEdits.{changes_of}
use Rattle.pg_inbox_bundles.proofs.Replacing.{AreFound}
use Rattle.pg_inbox_bundles.proofs.patching.changes_at.Given as goal

abbrev pub invariant-loop-target : goal.invariant-loop-target
invariant-loop-target g l =
    let changes = changes_of (g.C.MessageCombiner.combining l.combiner) l.old in
    record {
      same : l.cursor ≡ l.old;
      items : l.changes.items ++ changes (groups_of l.remaining) ≡ changes (groups_of l.message_edits);
      found : AreFound l.old l.changes.items l.changed.items;
      hold : AllByRecursion (λ c. HoldsAt g.M.Plain.is_value c.1) l.changes.items;
    }

abbrev pub decreases-loop-target : goal.decreases-loop-target
decreases-loop-target g l = length l.remaining
