use Rattle.pg_inbox_messages.specs.declared.message_list.Contents.{Contents}
use Rattle.std.proofs.Common.{ℕ, Option, ◌++◌, ap, ◌∙◌, subst, sym}
use Rattle.std.specs.List.Sorted.{IsNonDecreasingBy}
use Rattle.pg_map.specs.Entries.{ChangesRise, HasRisingIds}
use Rattle.pg_map.proofs.Parts.{rises_after}
use Rattle.pg_inbox_bundles.specs.Shared.{envelopes_of}
use Rattle.pg_inbox_bundles.specs.Sound.{message_lists_with}
use Rattle.pg_inbox_bundles.proofs.Sent.{with_rise}
use Rattle.pg_inbox_bundles.proofs.bundles.Bundle.message_lists.Goals as goal

pub loop-id-init : goal.loop-id-init
loop-id-init g c =
    let all = c.into_iter-id-iterator.ensures.into_iter_gives ∙ c.iter-id-items.ensures.rest in
    record {
      envelopes_rise = subst (IsNonDecreasingBy (λ p. p.0)) (sym c.as_slice-remaining.ensures) c.self.invariant.envelopes_rise;
      changes_rise = subst ChangesRise (sym all) c.self.invariant.changes_rise;
      message_lists = ap (λ l. l ++ message_lists_with c.into_iter-id-iterator.result c.as_slice-remaining.result.now) c.in_ok-message_lists.ensures.items
          ∙ ap (λ cs. message_lists_with cs c.as_slice-remaining.result.now) all ∙ ap (message_lists_with c.self.inside.changes) c.as_slice-remaining.ensures ∙ c.self.view_is;
    }

pub loop-id-preserved : goal.loop-id-preserved
loop-id-preserved g c =
    let before = c.loop-id.message_lists.items in
    let rest = c.next.new.self in
    let change : ℕ × Option (Contents g.row.M.Denot) = (c.in-Some.id.now, c.in-Some.change.now) in
    let rise = subst ChangesRise c.in-Some.ensures.steps c.loop-id.invariant.changes_rise in
    record {
      envelopes_rise = c.in_ok-remaining.ensures.rise;
      changes_rise = rises_after change rest rise;
      message_lists = c.in_ok-remaining.ensures.message_lists rest rise ∙ ap (λ cs. before ++ message_lists_with cs c.loop-id.remaining.now) (sym c.in-Some.ensures.steps)
          ∙ c.loop-id.invariant.message_lists;
    }

pub returns-clause-message_lists : goal.returns-clause-message_lists
returns-clause-message_lists g c =
    c.in_ok-add_sent.ensures
    ∙ ap (λ cs. c.loop-id.message_lists.items ++ message_lists_with cs c.loop-id.remaining.now) (sym c.in-None.ensures.steps.0)
    ∙ c.loop-id.invariant.message_lists

pub returns-clause-rise : goal.returns-clause-rise
returns-clause-rise g c =
    subst HasRisingIds c.self.view_is (with_rise c.self.inside.changes (envelopes_of c.self.inside.envelopes) c.self.invariant.envelopes_rise)

pub returns-in_err-message_lists-clause-rise : goal.returns-in_err-message_lists-clause-rise
returns-in_err-message_lists-clause-rise g c =
    subst HasRisingIds c.self.view_is (with_rise c.self.inside.changes (envelopes_of c.self.inside.envelopes) c.self.invariant.envelopes_rise)

pub returns-in_err-remaining-clause-rise : goal.returns-in_err-remaining-clause-rise
returns-in_err-remaining-clause-rise g c =
    subst HasRisingIds c.self.view_is (with_rise c.self.inside.changes (envelopes_of c.self.inside.envelopes) c.self.invariant.envelopes_rise)

pub returns-in_err-add_sent-clause-rise : goal.returns-in_err-add_sent-clause-rise
returns-in_err-add_sent-clause-rise g c =
    subst HasRisingIds c.self.view_is (with_rise c.self.inside.changes (envelopes_of c.self.inside.envelopes) c.self.invariant.envelopes_rise)
