use Rattle.std.proofs.Common.{◌≡◌, ℕ, cond, ◌&&◌, length, None}
use Rattle.std.specs.Prelude.{◌==◌, nat_lt, slice_index_or}
use Rattle.pg_inbox.specs.LoggedBundle.{slot_at}
use Rattle.pg_core_machine.specs.Machine.{host_of}
use Rattle.pg_core.proofs.losing.lose_hosted.Given as goal

-- what the worker hosts of the partitions so far is gone
abbrev pub invariant-loop-number : goal.invariant-loop-number
invariant-loop-number g l = record {
  each : length l.parts.items ≡ length l.fn.parts.items;
  gone : (p : ℕ) → slice_index_or l.parts.items p None
      ≡ cond (nat_lt p l.number && (host_of p l.state == l.fn.worker)) None (slice_index_or l.fn.parts.items p None);
  forgotten : (s p q : ℕ) → slot_at l.logs s p q
      ≡ cond (nat_lt p l.number && (host_of p l.state == l.fn.worker)) None (slot_at l.fn.logs s p q);
}
