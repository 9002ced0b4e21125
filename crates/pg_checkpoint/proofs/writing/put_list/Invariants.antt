use Rattle.std.proofs.Common.{◌≡◌, ◌++◌, length, take}
use Rattle.std.specs.List.{AllByRecursion, flat_map}
use Rattle.pg_program.specs.Coding.{natural_coding}
use Rattle.pg_checkpoint.proofs.writing.put_list.Given as goal

abbrev pub invariant-loop-item : goal.invariant-loop-item
invariant-loop-item g l =
    (l.bytes.items ≡ l.fn.bytes.items ++ (natural_coding (length l.items) ++ flat_map g.T.Coded.coding (take l.item-index l.items)))
    × AllByRecursion g.T.Plain.is_value (take l.item-index l.items)
