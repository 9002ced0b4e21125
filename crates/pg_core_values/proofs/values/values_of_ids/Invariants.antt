use Rattle.std.proofs.Common.{◌≡◌, flat_map, take}
use Rattle.pg_core_values.specs.Values.{state_by, traces_of, valued}
use Rattle.pg_core_values.proofs.values.values_of_ids.Given as goal

abbrev pub invariant-loop-id : goal.invariant-loop-id
invariant-loop-id g l = record {
  so_far : l.values.items ≡ flat_map (λ id. valued id (state_by l.fn.partitioner l.fn.superstep (traces_of l.parts) id)) (take l.id-index l.ids);
  same : l.states.items ≡ traces_of l.parts;
}
