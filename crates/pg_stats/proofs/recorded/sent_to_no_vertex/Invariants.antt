use Rattle.std.proofs.Common.{◌≡◌, count_by, take}
use Rattle.pg_stats.specs.MessageCounts.{is_no_vertex}
use Rattle.pg_stats.proofs.recorded.sent_to_no_vertex.Given as goal

abbrev pub invariant-loop-target : goal.invariant-loop-target
invariant-loop-target g l = l.count ≡ count_by (λ m. is_no_vertex l.graph m.0) (take l.target-index l.sent)
