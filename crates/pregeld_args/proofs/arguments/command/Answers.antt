use Rattle.std.proofs.Common.{◌≡◌, ◌∙◌, ap, ap₂, codes, ℕ, take}
use Rattle.std.proofs.lemmas.Result.{IfOk-weaker}
use Rattle.std.specs.List.{fold}
use Rattle.clap.specs.Simple.{app_of_fields}
use Rattle.clap.specs.Words.{App, app_of, new_app, with_rule}
use Rattle.pregeld_args.specs.Arguments.{AreOptionWords, OptionWords, program, rules}
use Rattle.pregeld_args.proofs.arguments.command.Goals as goal

-- the command with so many of its options
abbrev with_first : ℕ → OptionWords → App
with_first n words = fold with_rule (new_app (codes "pregeld")) (take n (rules words))

pub returns : goal.returns
unfolding program
returns c =
    let words : OptionWords =
    record { programs = c.program_option.ensures.rule.0; combiners = c.combiner_option.ensures.rule.0; policies = c.missing_option.ensures.rule.0 } in
    let none : app_of c.after_help.result ≡ with_first 0 words =
    ap app_of_fields c.after_help.ensures ∙ ap app_of_fields c.about.ensures ∙ ap app_of_fields c.in_ok-bin_name.ensures.0 ∙ c.new.ensures.app in
    let one : app_of c.in_ok-arg.field-0 ≡ with_first 1 words =
    c.in_ok-arg.ensures.shape c.program_option.ensures.local ∙ ap₂ with_rule none c.program_option.ensures.rule.2 in
    let two : app_of c.in_ok-arg-2.field-0 ≡ with_first 2 words =
    c.in_ok-arg-2.ensures.shape c.number_option.ensures.local ∙ ap₂ with_rule one c.number_option.ensures.rule in
    let three : app_of c.in_ok-arg-3.field-0 ≡ with_first 3 words =
    c.in_ok-arg-3.ensures.shape c.number_option-2.ensures.local ∙ ap₂ with_rule two c.number_option-2.ensures.rule in
    let four : app_of c.in_ok-arg-4.field-0 ≡ with_first 4 words =
    c.in_ok-arg-4.ensures.shape c.number_option-3.ensures.local ∙ ap₂ with_rule three c.number_option-3.ensures.rule in
    let five : app_of c.in_ok-arg-5.field-0 ≡ with_first 5 words =
    c.in_ok-arg-5.ensures.shape c.number_option-4.ensures.local ∙ ap₂ with_rule four c.number_option-4.ensures.rule in
    let six : app_of c.in_ok-arg-6.field-0 ≡ with_first 6 words =
    c.in_ok-arg-6.ensures.shape c.combiner_option.ensures.local ∙ ap₂ with_rule five c.combiner_option.ensures.rule.2 in
    let seven : app_of c.in_ok-arg-7.field-0 ≡ with_first 7 words =
    c.in_ok-arg-7.ensures.shape c.number_option-5.ensures.local ∙ ap₂ with_rule six c.number_option-5.ensures.rule in
    let eight : app_of c.in_ok-arg-8.field-0 ≡ with_first 8 words =
    c.in_ok-arg-8.ensures.shape c.number_option-6.ensures.local ∙ ap₂ with_rule seven c.number_option-6.ensures.rule in
    let nine : app_of c.in_ok-arg-9.field-0 ≡ with_first 9 words =
    c.in_ok-arg-9.ensures.shape c.number_option-7.ensures.local ∙ ap₂ with_rule eight c.number_option-7.ensures.rule in
    let ten : app_of c.in_ok-arg-10.field-0 ≡ with_first 10 words =
    c.in_ok-arg-10.ensures.shape c.number_option-8.ensures.local ∙ ap₂ with_rule nine c.number_option-8.ensures.rule in
    let eleven : app_of c.in_ok-arg-11.field-0 ≡ with_first 11 words =
    c.in_ok-arg-11.ensures.shape c.number_option-9.ensures.local ∙ ap₂ with_rule ten c.number_option-9.ensures.rule in
    let are_words : AreOptionWords words =
    record { programs = c.program_option.ensures.rule.1; combiners = c.combiner_option.ensures.rule.1; policies = c.missing_option.ensures.rule.1 } in
    IfOk-weaker c.arg-12.result _ _
    (λ r added. (words, are_words, added.shape c.missing_option.ensures.local ∙ ap₂ with_rule eleven c.missing_option.ensures.rule.2)) c.arg-12.ensures
