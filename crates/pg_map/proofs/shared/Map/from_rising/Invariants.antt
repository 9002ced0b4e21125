use Rattle.std.proofs.Common.{◌≡◌, ◌++◌}
use Rattle.pg_map.proofs.shared.Map.from_rising.Given as goal

abbrev pub invariant-loop-id : goal.invariant-loop-id
invariant-loop-id g l = l.gathering ++ l.id-iterator.rest.items ≡ l.fn.entries.items
