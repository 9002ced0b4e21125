use Rattle.std.proofs.Common.{◌≡◌, length, reverse}
use Rattle.pg_import.specs.Comma.{trimmed}
use Rattle.pg_import.specs.Text.{skip_blanks}
use Rattle.pg_import.proofs.comma.trim_blanks.Given as goal

abbrev pub invariant-loop-rest : goal.invariant-loop-rest
invariant-loop-rest l = reverse (skip_blanks (reverse l.rest)) ≡ trimmed l.field

abbrev pub decreases-loop-rest : goal.decreases-loop-rest
decreases-loop-rest l = length l.rest
