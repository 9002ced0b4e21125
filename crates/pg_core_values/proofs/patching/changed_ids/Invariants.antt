use Rattle.std.proofs.Common.{◌≡◌, flat_map, take}
use Rattle.pg_core_values.specs.Values.{apart_in}
use Rattle.pg_core_values.proofs.patching.changed_ids.Given as goal

abbrev pub invariant-loop-part : goal.invariant-loop-part
invariant-loop-part g l = l.ids.items ≡ flat_map (apart_in l.fn.superstep l.fn.old) (take l.part-index l.parts)
