use Rattle.std.proofs.Common.{◌≡◌, take}
use Rattle.pg_part_routing.specs.Starting.{own}
use Rattle.pg_part_compute.proofs.vertex_pairs.only_own.Given as goal

abbrev pub invariant-loop-place : goal.invariant-loop-place
invariant-loop-place g l = l.own ≡ own l.share.partitions l.share.partition (take l.place l.work_items)
