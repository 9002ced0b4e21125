use Rattle.std.proofs.Common.{◌++◌, ap, refl, ◌∙◌}
use Rattle.std.specs.List.{join_by}
use Rattle.std.specs.Prelude.{codes}
use Rattle.std.proofs.lemmas.List.{take_all}
use Rattle.std.proofs.lemmas.Result.{IfOk-from_err, MatchResult-from_err}
use Rattle.pg_program.proofs.Appended.{added_err, added_ok}
use Rattle.pg_program.proofs.plain.SequencePlain.show.Goals as goal

pub returns-in_err-show-clause-err : goal.returns-in_err-show-clause-err
returns-in_err-show-clause-err g c =
    MatchResult-from_err c.from_residual-in_err-show.result _ _ c.from_residual-in_err-show.ensures.0 (λ _. refl)

pub returns-in_err-push_str-2-clause-ok : goal.returns-in_err-push_str-2-clause-ok
returns-in_err-push_str-2-clause-ok g c =
    IfOk-from_err c.from_residual-in_err-push_str-2.result _ c.from_residual-in_err-push_str-2.ensures.0

pub returns-clause-ok : goal.returns-clause-ok
returns-clause-ok g c =
    let whole = take_all c.loop-place.place c.as_slice-items.result.now c.loop-place-test.false ∙ c.as_slice-items.ensures in
    let stated = c.loop-place.invariant ∙ ap (λ l. codes "[" ++ join_by g.T.Plain.shown (codes " ") l) whole in
    added_ok c.push_str-3.result _ c.as_str.result.now _ c.push_str-3.ensures.bytes _
    (c.as_str.ensures.value ∙ c.in_ok-push_str-2.ensures.bytes ∙ ap (λ l. l ++ codes "]") stated)

pub returns-clause-err : goal.returns-clause-err
returns-clause-err g c = added_err c.push_str-3.result _ c.as_str.result.now _ c.push_str-3.ensures.bytes
