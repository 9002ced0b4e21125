use Rattle.std.proofs.Common.{◌≡◌, take}
use Rattle.pg_publish.proofs.answers.copy_values.Given as goal

-- the values so far are copied
abbrev pub invariant-loop-entry : goal.invariant-loop-entry
invariant-loop-entry g l = l.copied.items ≡ take l.entry-index l.values
