use Rattle.std.proofs.Common.{◌∙◌, inl, inr, map, sym}
use Rattle.clap.specs.Words.{app_of, found_of, kind_of}
use Rattle.pregeld_args.proofs.AskedWords.{asks, asks_nothing, fault_found, help_asked, plain_by, simple_by}
use Rattle.pregeld_args.proofs.options.options_of.Goals as goal

pub returns-in_default-clause-err : goal.returns-in_default-clause-err
returns-in_default-clause-err g c = tt

pub returns-in-Some-clause-ok : goal.returns-in-Some-clause-ok
returns-in-Some-clause-ok g c =
    let app = app_of c.in-Ok.command in
    let option_words = c.in-Ok.ensures.0 in
    let app_is = c.in-Ok.ensures.2 in
    let words = map g.S.AsStr.text c.args.words.now in
    let parsed = c.in-Ok-try_get_matches_from in
    let rows_is = (parsed.ensures.matches (simple_by app option_words app_is)).0 in
    record {
      option_words = option_words;
      are_words = c.in-Ok.ensures.1;
      asked = asks app option_words app_is words (found_of parsed.matches) rows_is c.in-Some.options
          (parsed.ensures.kinds (plain_by app option_words app_is)) c.in-Some.ensures.some;
    }

pub returns-in-Ok-try_get_matches_from-clause-err : goal.returns-in-Ok-try_get_matches_from-clause-err
returns-in-Ok-try_get_matches_from-clause-err g c =
    let app = app_of c.in-Ok.command in
    let option_words = c.in-Ok.ensures.0 in
    let app_is = c.in-Ok.ensures.2 in
    let words = map g.S.AsStr.text c.args.words.now in
    let parsed = c.in-Ok-try_get_matches_from in
    let rows_is = (parsed.ensures.matches (simple_by app option_words app_is)).0 in
    record {
      option_words = option_words;
      are_words = c.in-Ok.ensures.1;
      faulty = inr (asks_nothing app option_words app_is words (found_of parsed.matches) rows_is
          (parsed.ensures.kinds (plain_by app option_words app_is)) c.in-None.ensures.none);
    }

pub returns-in-DisplayHelp-clause-err : goal.returns-in-DisplayHelp-clause-err
returns-in-DisplayHelp-clause-err g c =
    let app = app_of c.in-Ok.command in
    let option_words = c.in-Ok.ensures.0 in
    let app_is = c.in-Ok.ensures.2 in
    let words = map g.S.AsStr.text c.args.words.now in
    record {
      option_words = option_words;
      are_words = c.in-Ok.ensures.1;
      asked = help_asked app option_words words (kind_of c.in-Err.error) app_is
          (sym c.kind.ensures ∙ c.in-DisplayHelp.is) (c.in-Err.ensures.kinds (plain_by app option_words app_is));
    }

pub returns : goal.returns
returns g c =
    let app = app_of c.in-Ok.command in
    let option_words = c.in-Ok.ensures.0 in
    let app_is = c.in-Ok.ensures.2 in
    let words = map g.S.AsStr.text c.args.words.now in
    let other = c.in_default-kind in
    let found = fault_found app option_words words (kind_of c.in-Err.error) app_is
    (λ memory. other.not-OutOfMemory (c.kind.ensures ∙ memory))
    (λ help. other.not-DisplayHelp (c.kind.ensures ∙ help)) (c.in-Err.ensures.kinds (plain_by app option_words app_is)) in
    record { range = tt; ok = tt; err = record { option_words = option_words; are_words = c.in-Ok.ensures.1; faulty = inl found } }
