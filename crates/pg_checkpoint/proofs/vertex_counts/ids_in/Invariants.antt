use Rattle.std.proofs.Common.{◌≡◌, ◌++◌, map, take}
use Rattle.std.specs.List.{flat_map}
use Rattle.std.specs.Map.{keys_of}
use Rattle.pg_checkpoint.proofs.vertex_counts.ids_in.Given as goal

abbrev pub invariant-loop-superstep : goal.invariant-loop-superstep
invariant-loop-superstep g l = l.ids.items ≡ map (λ x. x.id) l.trace.initial ++ flat_map keys_of (take l.superstep l.trace.records)
