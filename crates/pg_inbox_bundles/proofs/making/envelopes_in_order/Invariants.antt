use Rattle.std.proofs.Common.{map, take}
use Rattle.std.specs.List.{AllByRecursion}
use Rattle.pg_sort.specs.ById.{StandAt}
use Rattle.pg_inbox_bundles.specs.Outbox.{as_item}
use Rattle.pg_inbox_bundles.proofs.making.envelopes_in_order.Given as goal

abbrev pub invariant-loop-place : goal.invariant-loop-place
invariant-loop-place g l = record {
  stand : StandAt (map as_item l.sent) (take l.place-index l.order) l.envelopes.items;
  values : AllByRecursion (λ p. g.M.Plain.is_value p.1.1) l.envelopes.items;
}
