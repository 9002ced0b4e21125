use Rattle.std.proofs.Common.{◌≡◌, ◌++◌}
use Rattle.pg_core_values.proofs.kept.Values.listed.Given as goal

abbrev pub invariant-loop-id : goal.invariant-loop-id
invariant-loop-id g l = l.list.items ++ l.id-iterator ≡ l.self
