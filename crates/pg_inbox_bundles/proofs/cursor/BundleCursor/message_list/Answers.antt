use Rattle.std.proofs.Common.{ap, ◌∙◌, subst, sym}
use Rattle.std.specs.Option.{option_copied}
use Rattle.pg_map.specs.Entries.{value_at}
use Rattle.pg_inbox_bundles.specs.Holding.{HoldsAt}
use Rattle.pg_inbox_bundles.specs.Sound.{message_lists_with}
use Rattle.pg_inbox_bundles.proofs.Held.{holds_at}
use Rattle.pg_inbox_bundles.proofs.Sent.{value_changed, value_sent}
use Rattle.pg_inbox_bundles.proofs.cursor.BundleCursor.message_list.Goals as goal

pub returns-in-Some-clause-value : goal.returns-in-Some-clause-value
returns-in-Some-clause-value g c =
    c.message_list.ensures
    ∙ sym (value_changed c.self.inside.changes c.self.inside.envelopes.now c.self.invariant.envelopes_rise c.self.invariant.changes_rise c.args.target
    (sym c.get.ensures.value ∙ ap option_copied c.in-Some.is))
    ∙ ap (value_at c.args.target) c.self.view_is

pub returns-in-Some-clause-holds : goal.returns-in-Some-clause-holds
returns-in-Some-clause-holds g c =
    subst (λ b. HoldsAt g.M.Plain.is_value (value_at c.args.target b)) c.self.view_is
    (holds_at g.M.Plain.is_value c.args.target (message_lists_with c.self.inside.changes c.self.inside.envelopes.now) c.self.invariant.hold)

pub returns-in-None-clause-value : goal.returns-in-None-clause-value
returns-in-None-clause-value g c =
    c.sent_near.ensures
    ∙ sym (value_sent c.self.inside.changes c.self.inside.envelopes.now c.self.invariant.envelopes_rise c.self.invariant.changes_rise c.args.target
    (sym c.get.ensures.value ∙ ap option_copied c.in-None.is))
    ∙ ap (value_at c.args.target) c.self.view_is

pub returns-in-None-clause-holds : goal.returns-in-None-clause-holds
returns-in-None-clause-holds g c =
    subst (λ b. HoldsAt g.M.Plain.is_value (value_at c.args.target b)) c.self.view_is
    (holds_at g.M.Plain.is_value c.args.target (message_lists_with c.self.inside.changes c.self.inside.envelopes.now) c.self.invariant.hold)
