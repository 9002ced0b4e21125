use Rattle.std.proofs.Common.{◌≡◌, ◌++◌, map, take}
use Rattle.std.specs.List.{AllByRecursion, flat_map}
use Rattle.std.specs.Map.{keys_of}
use Rattle.pg_checkpoint.specs.Bytes.{superstep_coding}
use Rattle.pg_checkpoint.specs.Records.{IsCodable}
use Rattle.pg_program.specs.Plain.{are_listed}
use Rattle.pg_checkpoint.proofs.writing.put_supersteps.Given as goal

abbrev pub invariant-loop-superstep : goal.invariant-loop-superstep
invariant-loop-superstep g l =
    (l.bytes.items ≡ l.fn.bytes.items ++ flat_map (superstep_coding g.V.Coded.coding g.M.Coded.coding) (take l.superstep l.trace.records))
    × AllByRecursion (are_listed (IsCodable g.V.Plain.is_value g.M.Plain.is_value)) (take l.superstep l.trace.records)
    × (l.ids.items ≡ map (λ x. x.id) l.trace.initial ++ flat_map keys_of (take l.superstep l.trace.records))
