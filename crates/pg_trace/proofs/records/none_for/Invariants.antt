use Rattle.std.proofs.Common.{◌≡◌, map, take, None}
use Rattle.pg_trace.proofs.records.none_for.Given as goal

abbrev pub invariant-loop-id : goal.invariant-loop-id
invariant-loop-id g l = l.none.items ≡ map (λ e. (e.0, None)) (take l.id-index l.records)
