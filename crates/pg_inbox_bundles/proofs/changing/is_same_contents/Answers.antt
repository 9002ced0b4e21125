use Rattle.std.proofs.Common.{ap, sym, ◌∙◌, rules}
use Rattle.std.specs.Option.{option_copied}
use Rattle.pg_inbox_bundles.proofs.Differing.{fold_apart, same_by_envelopes}
use Rattle.pg_inbox_bundles.proofs.changing.is_same_contents.Goals as goal

pub returns-in-None-folded : goal.returns-in-None-folded
returns-in-None-folded g c target = (
  (λ h. absurd (search (rules, h))),
  λ h. absurd (fold_apart target c.args.old.now c.args.new.now c.in-Some.before.now (sym c.folded.ensures ∙ ap option_copied c.in-Some.is)
      (sym c.folded-in-Some.ensures ∙ ap option_copied c.in-None-folded.is) c.requires.new.0 h),
)

pub returns-in-Some-folded-2 : goal.returns-in-Some-folded-2
returns-in-Some-folded-2 g c target = (
  (λ h. absurd (search (rules, h))),
  λ h. absurd (fold_apart target c.args.new.now c.args.old.now c.in-Some-folded-2.field-0.now
      (sym c.folded-in-None.ensures ∙ ap option_copied c.in-Some-folded-2.is)
      (sym c.folded.ensures ∙ ap option_copied c.in-None.is) c.requires.old.0 (sym h)),
)

pub returns-in-None-folded-2 : goal.returns-in-None-folded-2
returns-in-None-folded-2 g c target =
    let both = same_by_envelopes target c.args.old.now c.args.new.now (sym c.folded.ensures ∙ ap option_copied c.in-None.is)
    (sym c.folded-in-None.ensures ∙ ap option_copied c.in-None-folded-2.is) in
    let stated = c.are_same_envelopes.ensures in
    ((λ h. both.0 (stated.0 h)), λ h. stated.1 (both.1 h))
