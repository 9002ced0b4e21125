use Rattle.std.proofs.Common.{◌≡◌, ◌∷◌, ◌<◌, length, arith, rules, sym, ◌∙◌}
use Rattle.std.proofs.lemmas.Bool.Decides.{nat_tests}
use Rattle.pg_import.specs.Text.{words_of}
use Rattle.pg_import.proofs.TextWords.{words_of-cut, words_of-empty}
use Rattle.pg_import.proofs.text.WordsIterator.next.Goals as goal

pub returns-then-is_empty-clause-steps : goal.returns-then-is_empty-clause-steps
returns-then-is_empty-clause-steps c =
    let none : length c.split_at.result.0.now ≡ 0 = grind (arith, nat_tests) in
    let empty = words_of-empty c.self.inside.rest.now _ _ _ c.after_blanks-ahead.ensures c.word_len.ensures.place c.split_at.ensures.front none in
    (sym c.self.view_is ∙ empty, sym c.self.view_is ∙ empty)

pub returns-clause-steps : goal.returns-clause-steps
returns-clause-steps c =
    let some : 0 < length c.split_at.result.0.now = grind (arith, nat_tests) in
    sym c.self.view_is ∙ words_of-cut c.self.inside.rest.now _ _ _ _ c.after_blanks-ahead.ensures c.word_len.ensures.place c.split_at.ensures.front
    c.split_at.ensures.back some

pub returns-clause-goes : goal.returns-clause-goes
returns-clause-goes c =
    let some : 0 < length c.split_at.result.0.now = grind (arith, nat_tests) in
    let steps : c.args.self.now ≡ c.split_at.result.0.now ∷ words_of c.split_at.result.1.now =
    sym c.self.view_is ∙ words_of-cut c.self.inside.rest.now _ _ _ _ c.after_blanks-ahead.ensures c.word_len.ensures.place c.split_at.ensures.front
    c.split_at.ensures.back some in
    rw steps (search (rules, arith))
