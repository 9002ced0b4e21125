use Rattle.std.proofs.Common.{sym, ap, ◌∙◌, subst}
use Rattle.pg_map.specs.Entries.{HasRisingIds, with_changes}
use Rattle.pg_trace_index.specs.Chunks.{all_of}
use Rattle.pg_trace_index.specs.Forms.{entries_by}
use Rattle.pg_trace_index.specs.Occurrences.{StepsRise}
use Rattle.pg_trace_index.proofs.index.Index.noted.Goals as goal

pub note_over-requires-clause-steps : goal.note_over-requires-clause-steps
note_over-requires-clause-steps c =
    let overlay = all_of c.self.inside.overlay.items in
    let is = c.in_map-base.ensures ∙ ap entries_by (sym c.in-InMap.is) ∙ c.base.view_is in
    subst StepsRise (sym (ap (with_changes overlay) is ∙ c.self.view_is)) c.requires.steps

pub note_in_log-requires-clause-steps : goal.note_in_log-requires-clause-steps
note_in_log-requires-clause-steps c =
    let overlay = all_of c.self.inside.overlay.items in
    let is = ap entries_by (sym c.in-InLog.is) ∙ c.base.view_is in
    subst StepsRise (sym (ap (with_changes overlay) is ∙ c.self.view_is)) c.requires.steps

pub note_over-requires-clause-rising : goal.note_over-requires-clause-rising
note_over-requires-clause-rising c =
    let is = c.in_map-base.ensures ∙ ap entries_by (sym c.in-InMap.is) ∙ c.base.view_is in
    subst (λ l. HasRisingIds l) (sym is) c.self.invariant.0

pub over-requires-clause-rising : goal.over-requires-clause-rising
over-requires-clause-rising c =
    let is = c.in_map-base.ensures ∙ ap entries_by (sym c.in-InMap.is) ∙ c.base.view_is in
    subst (λ l. HasRisingIds l) (sym is) c.self.invariant.0
