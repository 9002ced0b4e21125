use Rattle.std.proofs.Common.{◌≡◌, length, take}
use Rattle.pg_part_routing.specs.Sending.{AreParts, sends_by_records}
use Rattle.pg_part_routing.proofs.sending.recorded_sends.Given as goal

abbrev pub invariant-loop-sender : goal.invariant-loop-sender
invariant-loop-sender g l = record {
  len : length l.parts.items ≡ l.partitions;
  parts : AreParts l.partitions (sends_by_records (take l.sender-index l.records)) l.parts.items;
}
