use Rattle.std.proofs.Common.{◌≡◌, map, take}
use Rattle.pg_scratch.specs.Undeliverable.{blank}
use Rattle.pg_scratch.proofs.undeliverable.blanks_of.Given as goal

abbrev pub invariant-loop-id : goal.invariant-loop-id
invariant-loop-id g l = l.blanks.items ≡ map blank (take l.id-index l.ids)
