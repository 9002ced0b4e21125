use Rattle.std.proofs.Common.{◌≡◌, map, filter}
use Rattle.std.specs.List.{range_with_len}
use Rattle.pg_core_machine.specs.Machine.{host_of}
use Rattle.pg_core.specs.Progress.{is_ready}
use Rattle.pg_core.proofs.running.Core.ready.Given as goal

-- those that are ready of the partitions so far
abbrev pub invariant-loop-number : goal.invariant-loop-number
invariant-loop-number g l =
    l.ready.items ≡ map (λ p. (host_of p l.self.state, p)) (filter (is_ready l.self) (range_with_len 0 l.number))
