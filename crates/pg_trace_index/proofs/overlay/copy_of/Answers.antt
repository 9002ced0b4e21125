use Rattle.std.proofs.Common.{◌≡◌, ◌++◌, ◌∷◌, [], ap, sym, ◌∙◌, append_assoc, take}
use Rattle.std.proofs.lemmas.List.{take_all, take_more}
use Rattle.pg_trace_index.proofs.overlay.copy_of.Goals as goal

pub loop-id-preserved : goal.loop-id-preserved
loop-id-preserved c =
    let start = c.args.copies.now.items in
    let overlay = c.args.overlay.now in
    let i = c.loop-id.id-index in
    let note = c.loop-id-item.result in
    let pushed : c.push.new.self.items ≡ c.loop-id.copies.items ++ (note.0, c.in_ok-shared_if_any.field-0) ∷ [] = c.in_ok-push.ensures.items in
    pushed ∙ ap (λ s. c.loop-id.copies.items ++ (note.0, s) ∷ []) c.in_ok-shared_if_any.ensures
    ∙ ap (λ l. l ++ note ∷ []) c.loop-id.invariant ∙ append_assoc start (take i overlay) (note ∷ [])
    ∙ ap (λ l. start ++ l) (ap (λ e. take i overlay ++ e ∷ []) c.loop-id-item.is ∙ sym (take_more overlay i note c.loop-id-test.true))

pub returns : goal.returns
returns c = c.loop-id.invariant ∙ ap (λ l. c.args.copies.now.items ++ l) (take_all c.loop-id.id-index c.args.overlay.now c.loop-id-test.false)
