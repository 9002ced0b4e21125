use Rattle.std.proofs.Common.{◌≡◌, ◌++◌, take}
use Rattle.pg_service.specs.Kept.{sources}
use Rattle.pg_service.proofs.kept.add_sources.Given as goal

abbrev pub invariant-loop-edit : goal.invariant-loop-edit
invariant-loop-edit l = l.ids.items ≡ l.fn.ids.items ++ sources (take l.edit-index l.edits)
