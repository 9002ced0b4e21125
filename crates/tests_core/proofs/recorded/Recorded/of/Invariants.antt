use Rattle.std.proofs.Common.{◌≡◌, length}
use Rattle.std.specs.List.{AllByRecursion}
use Rattle.pg_map.specs.Entries.{HasRisingIds}
use Rattle.tests_core.proofs.recorded.Recorded.of.Given as goal

abbrev pub invariant-loop-number : goal.invariant-loop-number
invariant-loop-number g l = record {
  many : length l.supersteps.items ≡ l.number;
  rise : AllByRecursion (λ s. HasRisingIds s.items) l.supersteps.items;
}
