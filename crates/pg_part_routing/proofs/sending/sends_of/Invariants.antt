use Rattle.std.proofs.Common.{◌≡◌, length, take}
use Rattle.std.specs.List.{flat_map}
use Rattle.pg_part_routing.specs.Sending.{AreParts, sends_of}
use Rattle.pg_part_routing.proofs.sending.sends_of.Given as goal

abbrev pub invariant-loop-place : goal.invariant-loop-place
invariant-loop-place g l = record {
  len : length l.parts.items ≡ l.partitions;
  parts : AreParts l.partitions (flat_map sends_of (take l.place l.changes)) l.parts.items;
}
