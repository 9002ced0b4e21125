use Rattle.std.proofs.Common.{◌≡◌, ◌++◌, take}
use Rattle.std.specs.Map.{keys_of}
use Rattle.pg_checkpoint.proofs.vertex_counts.add_ids.Given as goal

abbrev pub invariant-loop-entry : goal.invariant-loop-entry
invariant-loop-entry g l = l.ids.items ≡ l.fn.ids.items ++ keys_of (take l.entry-index l.entries)
