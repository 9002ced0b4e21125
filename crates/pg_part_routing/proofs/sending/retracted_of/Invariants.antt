use Rattle.std.proofs.Common.{◌≡◌, length, take}
use Rattle.std.specs.List.{flat_map}
use Rattle.pg_part_routing.specs.Sending.{AreParts, pairs_of}
use Rattle.pg_part_routing.proofs.sending.retracted_of.Given as goal

abbrev pub invariant-loop-place : goal.invariant-loop-place
invariant-loop-place g l = record {
  len : length l.parts.items ≡ l.partitions;
  parts : AreParts l.partitions (flat_map (pairs_of l.old l.superstep) (take l.place l.changes)) l.parts.items;
}
