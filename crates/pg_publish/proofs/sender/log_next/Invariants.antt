use Rattle.std.proofs.Common.{◌≡◌, [], drop}
use Rattle.pg_publish.proofs.sender.log_next.Given as goal

-- nothing was logged, and what comes next is what came in
abbrev pub invariant-loop : goal.invariant-loop
invariant-loop g l =
    (goal.iterator-loop g).can_next l.iterator' × (goal.iterator-loop g).is_finite l.iterator'
    × (l.writer.desk ≡ l.initial.writer.desk) × (drop l.writer.behind l.writer.log.items ≡ []) × (l.next ≡ l.initial.next)
