use Rattle.std.proofs.Common.{sym, subst}
use Rattle.pg_trace_index.specs.Chunks.{AreSound, all_of}
use Rattle.pg_trace_index.specs.LogEntry.{AreWithin}
use Rattle.pg_trace_index.proofs.InChunks.{none_sound}
use Rattle.pg_trace_index.proofs.log.Log.new.Goals as goal

pub invariant_of-result : goal.invariant_of-result
invariant_of-result c = (
  subst AreSound (sym c.new.ensures.items) none_sound,
  subst (λ l. AreWithin c.new-2.result.items (all_of l)) (sym c.new.ensures.items) tt,
)
