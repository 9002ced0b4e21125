use Rattle.std.proofs.Common.{◌++◌, ap, subst, sym, ◌∙◌}
use Rattle.std.proofs.lemmas.Result.{IfOk-equal}
use Rattle.pg_map.specs.Chunks.{AreChunks, entries_of}
use Rattle.pg_map.specs.Entries.{HasRisingIds, with_changes}
use Rattle.pg_map.proofs.gather.Gathering.merge_group.Goals as goal

pub merge_chunks-requires-clause-entries_rise : goal.merge_chunks-requires-clause-entries_rise
merge_chunks-requires-clause-entries_rise g c =
    let chunks = c.as_slice.ensures.value ∙ ap (λ v. v.items) c.deref.ensures in
    subst (λ l. HasRisingIds (entries_of l)) (sym chunks) c.requires.entries_rise

pub merge_chunks-requires-clause-chunks : goal.merge_chunks-requires-clause-chunks
merge_chunks-requires-clause-chunks g c =
    subst AreChunks (sym (c.as_slice.ensures.value ∙ ap (λ v. v.items) c.deref.ensures)) c.requires.chunks

pub returns : goal.returns
returns g c =
    let chunks = c.as_slice.ensures.value ∙ ap (λ v. v.items) c.deref.ensures in
    IfOk-equal c.merge_chunks.result _ _ _ c.merge_chunks.ensures
    (ap (λ l. c.args.self.now ++ with_changes c.args.changes.now (entries_of l)) chunks)
