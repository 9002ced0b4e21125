use Rattle.std.proofs.Common.{sym, subst}
use Rattle.std.specs.List.Sorted.{IsStrictlySortedBy}
use Rattle.pg_map.specs.Entries.{HasRisingIds}
use Rattle.pg_map.proofs.Parts.{is_less}
use Rattle.tests_records.proofs.trace.push_two.Goals as goal

pub push_superstep-requires : goal.push_superstep-requires
unfolding IsStrictlySortedBy
push_superstep-requires c = subst HasRisingIds (sym c.in_ok-records.ensures.items) ((is_less _ _ c.requires, tt), (tt, tt))
