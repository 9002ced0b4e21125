use Rattle.pg_map.specs.Entries.{ChangesRise}
use Rattle.pg_map.proofs.Parts.{Below}
use Rattle.tests_storage.proofs.map.each_below.Given as goal

abbrev pub invariant-loop-number : goal.invariant-loop-number
invariant-loop-number l = record {
  rise : ChangesRise l.changes.items;
  below : Below l.number l.changes.items;
}
