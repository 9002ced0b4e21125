use Rattle.std.proofs.Common.{◌≡◌, false, None, Option, Some, ap, is_some, refl, ◌∙◌, sym, true≢false}
use Rattle.std.proofs.lemmas.Result.{IfOk-weaker}
use Rattle.pg_inbox_messages.specs.Contents.{message_lists_of}
use Rattle.pg_inbox_messages.specs.Grouping.{groups_of}
use Rattle.pg_inbox_bundles.proofs.Bundling.{bundle_from_groups}
use Rattle.pg_inbox_bundles.proofs.making.bundle.Goals as goal

none_by : {X : Type 0} (o : Option X) → is_some o ≡ false → o ≡ None
none_by None h = refl
none_by (Some x) h = absurd (true≢false h)

pub returns-then-combines : goal.returns-then-combines
returns-then-combines g c =
    let combining = g.C.MessageCombiner.combining c.args.combiner.now in
    IfOk-weaker c.combined_bundle.result _ _
    (λ bundle is. (bundle_from_groups combining c.args.sent.now c.in_ok-envelopes.ensures.groups (is ∙ ap (λ l. message_lists_of combining (groups_of l)) c.as_slice.ensures.value)).0)
    c.combined_bundle.ensures

pub returns : goal.returns
returns g c =
    let combining = g.C.MessageCombiner.combining c.args.combiner.now in
    let groups = groups_of c.in_ok-envelopes.envelopes.items in
    let none : combining ≡ None = none_by combining (sym c.combines.ensures ∙ c.if-combines.false) in
    IfOk-weaker c.sent_bundle.result _ _
    (λ bundle is. (bundle_from_groups combining c.args.sent.now c.in_ok-envelopes.ensures.groups (is ∙ ap (λ o. message_lists_of o groups) (sym none))).0)
    c.sent_bundle.ensures
