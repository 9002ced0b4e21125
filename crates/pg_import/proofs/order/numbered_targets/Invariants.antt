use Rattle.pg_sort.specs.ById.{AreEntriesOf}
use Rattle.pg_import.specs.Ranks.{targets_of}
use Rattle.pg_import.proofs.order.numbered_targets.Given as goal

abbrev pub invariant-loop-place : goal.invariant-loop-place
invariant-loop-place l = AreEntriesOf (targets_of l.lines) l.targets.items
