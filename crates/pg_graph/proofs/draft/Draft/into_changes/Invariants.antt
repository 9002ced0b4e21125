use Rattle.std.proofs.Common.{◌≡◌, ◌++◌}
use Rattle.pg_graph.proofs.draft.Draft.into_changes.Given as goal

-- what is taken, and what is left, are the changes
abbrev pub invariant-loop-id : goal.invariant-loop-id
invariant-loop-id l = l.changes.items ++ l.id-iterator ≡ l.self-inside.changes.entries
