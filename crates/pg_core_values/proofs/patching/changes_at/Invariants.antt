use Rattle.std.proofs.Common.{◌≡◌, take}
use Rattle.pg_core_values.specs.Values.{new_values, traces_of}
use Rattle.pg_core_values.proofs.patching.changes_at.Given as goal

abbrev pub invariant-loop-id : goal.invariant-loop-id
invariant-loop-id g l = record {
  so_far : l.changes.items ≡ new_values l.fn.partitioner l.fn.superstep (traces_of l.parts) (take l.id-index l.ids);
  same : l.states.items ≡ traces_of l.parts;
}
