use Rattle.std.proofs.Common.{◌≡◌, take, sum_by}
use Rattle.pg_map.proofs.part.counted.Given as goal

abbrev pub invariant-loop-part : goal.invariant-loop-part
invariant-loop-part g l = l.total ≡ sum_by (λ part. part.count) (take l.part-index l.parts)
