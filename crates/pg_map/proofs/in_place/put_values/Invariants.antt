use Rattle.std.proofs.Common.{◌≡◌, drop}
use Rattle.pg_map.specs.Chunks.{AreThere}
use Rattle.pg_map.specs.Entries.{HasRisingIds, with_changes}
use Rattle.pg_map.proofs.in_place.put_values.Given as goal

abbrev pub invariant-loop-id : goal.invariant-loop-id
invariant-loop-id g l = record {
  made : with_changes (drop l.id-index l.id-items) l.entries ≡ with_changes l.initial.id-items l.initial.entries;
  there : AreThere (drop l.id-index l.id-items) l.entries;
  rise : HasRisingIds l.entries;
}
