use Rattle.std.proofs.Common.{◌≡◌, take}
use Rattle.pg_core_machine.specs.Machine.{places_without}
use Rattle.pg_core_machine.proofs.state.lose_hosted.Given as goal

-- the hosts so far were gone through
abbrev pub invariant-loop-index : goal.invariant-loop-index
invariant-loop-index l = record {
  so_far : l.places.items ≡ places_without l.fn.worker (take l.index l.fn.hosts) l.fn.places.items;
}
