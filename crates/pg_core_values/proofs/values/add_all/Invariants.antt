use Rattle.std.proofs.Common.{◌≡◌, ◌++◌, take}
use Rattle.pg_core_values.proofs.values.add_all.Given as goal

abbrev pub invariant-loop-id : goal.invariant-loop-id
invariant-loop-id l = l.ids.items ≡ l.fn.ids.items ++ take l.id-index l.more
