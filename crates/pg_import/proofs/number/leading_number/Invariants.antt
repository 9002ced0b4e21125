use Rattle.std.proofs.Common.{length}
use Rattle.pg_import.specs.Leading.{IsReadTo}
use Rattle.pg_import.proofs.number.leading_number.Given as goal

abbrev pub invariant-loop-digit : goal.invariant-loop-digit
invariant-loop-digit l = IsReadTo l.text l.number l.rest

abbrev pub decreases-loop-digit : goal.decreases-loop-digit
decreases-loop-digit l = length l.rest
