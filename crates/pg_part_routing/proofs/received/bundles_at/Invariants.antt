use Rattle.std.proofs.Common.{◌≡◌}
use Rattle.std.specs.List.{AllByRecursion}
use Rattle.pg_inbox.specs.Handed.{HoldAll}
use Rattle.pg_part_routing.specs.Routes.{bundles_at}
use Rattle.pg_part_routing.proofs.received.bundles_at.Given as goal

abbrev pub invariant-loop-from : goal.invariant-loop-from
invariant-loop-from g l = record {
  value : l.bundles.items ≡ bundles_at l.logs l.from l.to l.superstep;
  hold : AllByRecursion (HoldAll g.M.Plain.is_value) l.bundles.items;
}
