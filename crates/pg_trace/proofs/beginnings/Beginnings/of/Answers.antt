use Rattle.std.proofs.Common.{ap, sym, ◌∙◌, subst}
use Rattle.std.specs.Map.{values_of}
use Rattle.pg_map.specs.Entries.{HasRisingIds}
use Rattle.pg_trace.specs.Beginning.{AreById}
use Rattle.pg_trace.proofs.Beginning.{are-by_id, rise-by_id, values-by_id}
use Rattle.pg_trace.proofs.beginnings.Beginnings.of.Goals as goal

pub from_rising-requires : goal.from_rising-requires
from_rising-requires g c = subst HasRisingIds (sym c.in_ok-entries.ensures) (rise-by_id c.args.states.items c.requires)

pub invariant_of-result : goal.invariant_of-result
invariant_of-result g c = subst AreById (sym (c.in_ok-states.ensures ∙ c.in_ok-entries.ensures)) (are-by_id c.args.states.items)

pub returns : goal.returns
returns g c = ap values_of (c.in_ok-states.ensures ∙ c.in_ok-entries.ensures) ∙ values-by_id c.args.states.items
