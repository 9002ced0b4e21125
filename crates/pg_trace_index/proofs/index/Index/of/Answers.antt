use Rattle.std.proofs.Common.{sym, subst}
use Rattle.pg_map.specs.Entries.{HasRisingIds}
use Rattle.pg_trace_index.specs.Chunks.{AreSound}
use Rattle.pg_trace_index.proofs.InChunks.{none_sound}
use Rattle.pg_trace_index.proofs.index.Index.of.Goals as goal

pub over-requires-clause-rising : goal.over-requires-clause-rising
over-requires-clause-rising c = subst (λ l. HasRisingIds l) (sym c.in_map.ensures) c.requires

pub over-requires-clause-sound : goal.over-requires-clause-sound
over-requires-clause-sound c = subst AreSound (sym c.new.ensures.items) none_sound
