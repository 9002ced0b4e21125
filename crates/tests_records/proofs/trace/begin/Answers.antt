use Rattle.std.proofs.Common.{sym, subst}
use Rattle.std.specs.List.Sorted.{IsStrictlySortedBy}
use Rattle.pg_map.proofs.Parts.{is_less}
use Rattle.pg_trace.specs.Trace.{StatesRise}
use Rattle.tests_records.proofs.trace.begin.Goals as goal

pub new-requires : goal.new-requires
unfolding IsStrictlySortedBy
new-requires c = subst StatesRise (sym c.in_ok-states.ensures.items) ((is_less _ _ c.requires, tt), (tt, tt))
