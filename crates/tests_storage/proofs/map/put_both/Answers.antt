use Rattle.std.proofs.Common.{sym, subst}
use Rattle.std.specs.List.Sorted.{IsStrictlySortedBy}
use Rattle.pg_map.specs.Entries.{ChangesRise}
use Rattle.pg_map.proofs.Parts.{is_less}
use Rattle.tests_storage.proofs.map.put_both.Goals as goal

pub change_own-requires : goal.change_own-requires
unfolding IsStrictlySortedBy
change_own-requires c = subst ChangesRise (sym c.in_ok-vec.ensures.items) ((is_less _ _ c.requires, tt), (tt, tt))
