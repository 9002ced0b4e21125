use Rattle.std.specs.List.Sorted.{IsStrictlySortedBy}
use Rattle.tests_storage.proofs.map.set.Goals as goal

pub change-requires : goal.change-requires
unfolding IsStrictlySortedBy
change-requires c = (tt, tt)
