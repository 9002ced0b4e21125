use Rattle.std.proofs.Common.{not, rules, tests, arith}
use Rattle.std.proofs.lemmas.Bool.Decides.{nat_tests}
use Rattle.std.proofs.lemmas.Iterator.{YieldsList-from_slice}
use Rattle.std.proofs.lemmas.Iterator.Search.{position_from_yields_List}
use Rattle.std.proofs.lemmas.List.Sums.{prefix_len-le-length}
use Rattle.pg_import.specs.Text.{is_blank}
use Rattle.pg_import.proofs.text.word_len.Goals as goal

pub returns-clause-place : goal.returns-clause-place
returns-clause-place c =
    let text = c.args.text.now in
    let place = position_from_yields_List is_blank _ _ c.position.result c.position.ensures.ran (YieldsList-from_slice c.args.text.now cc)
    (λ x b q k. search (rules, tests)) in
    let bound = prefix_len-le-length (λ b. not (is_blank b)) text in
    grind (arith, nat_tests)
