use Rattle.std.proofs.Common.{◌++◌, ap, ◌∙◌}
use Rattle.std.specs.Prelude.{codes}
use Rattle.pg_program.proofs.Appended.{added_err, added_ok}
use Rattle.pg_program.proofs.plain.Tuple2Plain.show.Goals as goal

pub returns-clause-ok : goal.returns-clause-ok
returns-clause-ok g c =
    let first = c.in_ok-show.ensures.ok ∙ ap (λ l. l ++ g.A.Plain.shown c.args.self.now.0) c.in_ok-shown.ensures.ok in
    let both = c.in_ok-show-2.ensures.ok ∙ ap (λ l. l ++ g.B.Plain.shown c.args.self.now.1)
    (c.in_ok-push_str.ensures.bytes ∙ ap (λ l. l ++ codes " ") first) in
    added_ok c.push_str-3.result _ c.as_str.result.now _ c.push_str-3.ensures.bytes _
    (c.as_str.ensures.value ∙ c.in_ok-push_str-2.ensures.bytes ∙ ap (λ l. l ++ codes ")") both)

pub returns-clause-err : goal.returns-clause-err
returns-clause-err g c = added_err c.push_str-3.result _ c.as_str.result.now _ c.push_str-3.ensures.bytes
