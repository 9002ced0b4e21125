use Rattle.std.proofs.Common.{◌≡◌, ◌++◌, length, take}
use Rattle.std.specs.List.{AllByRecursion, flat_map}
use Rattle.std.specs.Map.{keys_of}
use Rattle.pg_checkpoint.specs.Bytes.{record_coding}
use Rattle.pg_checkpoint.specs.Records.{IsCodable}
use Rattle.pg_program.specs.Coding.{natural_coding}
use Rattle.pg_checkpoint.proofs.writing.put_superstep.Given as goal

abbrev pub invariant-loop-record : goal.invariant-loop-record
invariant-loop-record g l =
    (l.bytes.items ≡ l.fn.bytes.items
    ++ (natural_coding (length l.records) ++ flat_map (record_coding g.V.Coded.coding g.M.Coded.coding) (take l.record-index l.records)))
    × AllByRecursion (IsCodable g.V.Plain.is_value g.M.Plain.is_value) (take l.record-index l.records)
    × (l.ids.items ≡ l.fn.ids.items ++ keys_of (take l.record-index l.records))
