use Rattle.std.proofs.Common.{sym, subst}
use Rattle.std.specs.List.Sorted.{IsStrictlySortedBy}
use Rattle.pg_map.specs.Entries.{HasRisingIds}
use Rattle.pg_map.proofs.Parts.{is_less}
use Rattle.tests_storage.proofs.map.two_entries.Goals as goal

pub from_rising-requires : goal.from_rising-requires
unfolding IsStrictlySortedBy
from_rising-requires c = subst HasRisingIds (sym c.in_ok-entries.ensures.items) ((is_less _ _ c.requires, tt), (tt, tt))
