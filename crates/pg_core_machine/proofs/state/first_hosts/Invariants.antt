use Rattle.std.proofs.Common.{◌≡◌, ◌%◌, map}
use Rattle.std.specs.List.{range_with_len}
use Rattle.pg_core_machine.proofs.state.first_hosts.Given as goal

abbrev pub invariant-loop-partition : goal.invariant-loop-partition
invariant-loop-partition l = l.hosts.items ≡ map (λ p. p % l.fn.workers) (range_with_len 0 l.partition)
