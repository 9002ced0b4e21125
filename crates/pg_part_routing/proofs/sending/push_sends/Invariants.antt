use Rattle.std.proofs.Common.{◌≡◌, length, map, take}
use Rattle.pg_part_routing.specs.Sending.{HaveMore}
use Rattle.pg_part_routing.proofs.sending.push_sends.Given as goal

abbrev pub invariant-loop-target : goal.invariant-loop-target
invariant-loop-target g l = record {
  len : length l.parts.items ≡ l.partitions;
  more : HaveMore l.partitions (map (λ m. (m.0, (l.sender, m.0, m.1))) (take l.target-index l.sent)) l.initial.parts.items l.parts.items;
}
