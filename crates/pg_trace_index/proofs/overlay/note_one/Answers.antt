use Rattle.std.proofs.Common.{sym, ap, ◌∙◌, subst}
use Rattle.pg_map.specs.Entries.{HasRisingIds}
use Rattle.pg_trace_index.specs.Chunks.{all_of}
use Rattle.pg_trace_index.specs.LogEntry.{chains}
use Rattle.pg_trace_index.proofs.Chains.{chains_rise}
use Rattle.pg_trace_index.proofs.overlay.note_one.Goals as goal

pub note_of-requires-clause-rising : goal.note_of-requires-clause-rising
note_of-requires-clause-rising c =
    let log = c.add_in_log.new.earlier.items in
    let last = c.add_in_log.new.last.items in
    let is = c.by_log-base.ensures ∙ c.of-cursor.ensures ∙ ap (λ l. chains l (all_of c.as_slice.result.now)) c.as_slice-2.ensures.value
    ∙ ap (λ l. chains log (all_of l)) c.as_slice.ensures.value in
    subst (λ l. HasRisingIds l) (sym is) (chains_rise log (all_of last) c.in_ok-add_in_log.ensures.log.rise)
