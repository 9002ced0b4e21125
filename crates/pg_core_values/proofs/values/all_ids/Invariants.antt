use Rattle.std.proofs.Common.{◌≡◌, flat_map, take}
use Rattle.pg_core_values.specs.Values.{ids_of_part}
use Rattle.pg_core_values.proofs.values.all_ids.Given as goal

abbrev pub invariant-loop-part : goal.invariant-loop-part
invariant-loop-part g l = l.ids.items ≡ flat_map (ids_of_part l.fn.missing l.fn.superstep) (take l.part-index l.parts)
