use Rattle.std.proofs.Common.{◌≡◌, take}
use Rattle.pg_core_values.specs.Values.{traces_of}
use Rattle.pg_core_values.proofs.values.all_states.Given as goal

abbrev pub invariant-loop-part : goal.invariant-loop-part
invariant-loop-part g l = l.states.items ≡ traces_of (take l.part-index l.parts)
