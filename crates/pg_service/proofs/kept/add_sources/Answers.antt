use Rattle.std.proofs.Common.{◌++◌, [], ◌∷◌, take, append_assoc, ap, sym, ◌∙◌}
use Rattle.std.proofs.lemmas.List.{map_more}
use Rattle.pg_graph.specs.Handed.{source_of}
use Rattle.pg_service.specs.Kept.{sources}
use Rattle.pg_service.proofs.kept.add_sources.Goals as goal

pub loop-edit-preserved : goal.loop-edit-preserved
loop-edit-preserved c =
    let ids = c.args.ids.now.items in
    let edits = c.args.edits.now in
    let before = sources (take c.loop-edit.edit-index edits) in
    c.in_ok-push.ensures.items
    ∙ (ap (λ l. l ++ c.source_of.result ∷ []) c.loop-edit.invariant
    ∙ (append_assoc ids before (c.source_of.result ∷ [])
    ∙ ap (λ l. ids ++ l) (ap (λ id. before ++ id ∷ []) (c.source_of.ensures ∙ ap source_of c.edit-item.is)
    ∙ sym (map_more source_of edits c.loop-edit.edit-index c.edit-item.result c.loop-edit-test.true))))
