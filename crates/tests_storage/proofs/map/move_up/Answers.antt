use Rattle.std.specs.List.Sorted.{IsStrictlySortedBy}
use Rattle.pg_map.proofs.Parts.{is_less}
use Rattle.tests_storage.proofs.map.move_up.Goals as goal

pub change-requires : goal.change-requires
unfolding IsStrictlySortedBy
change-requires c = ((is_less _ _ c.requires, tt), (tt, tt))
