use Rattle.std.proofs.Common.{◌≡◌, [], ◌∷◌, drop}
use Rattle.pg_publish.proofs.sender.show_next.Given as goal

-- what comes next waits in the log, and is of the history that is shown
abbrev pub invariant-loop : goal.invariant-loop
invariant-loop g l =
    (goal.iterator-loop g).can_next l.iterator' × (goal.iterator-loop g).is_finite l.iterator'
    × (drop l.writer.behind l.writer.log.items ≡ l.next ∷ []) × (l.next.publisher ≡ l.writer.desk.shown.value.publisher)
