use Rattle.std.proofs.Common.{◌≡◌, ◌≤◌, drop}
use Rattle.pg_import.specs.Number.{read_on}
use Rattle.pg_import.proofs.number.read_digits.Given as goal

abbrev pub invariant-loop-byte : goal.invariant-loop-byte
invariant-loop-byte l = (l.number ≤ l.limit) × (read_on l.number (drop l.byte-index l.digits) ≡ read_on 0 l.digits)
