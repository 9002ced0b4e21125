use Rattle.std.proofs.Common.{subst, ap, ◌∙◌}
use Rattle.pg_map.specs.Entries.{HasRisingIds}
use Rattle.pg_map.proofs.Filling.{all_more, gathered_more}
use Rattle.std.specs.List.{AllByRecursion, flat_map}
use Rattle.std.proofs.lemmas.List.{take_all}
use Rattle.pg_inbox_bundles.specs.Holding.{HoldAll}
use Rattle.pg_inbox.proofs.receivers.all_message_lists.Goals as goal

pub loop-bundle-preserved : goal.loop-bundle-preserved
loop-bundle-preserved g c = record {
  items = gathered_more (λ b. b.now) c.args.bundles.now c.loop-bundle.bundle-index c.loop-bundle-test.true c.bundle-item.is
      c.loop-bundle.invariant.items c.in_ok-add_message_lists.ensures.items;
  rise = all_more (λ b. HasRisingIds b.now) c.args.bundles.now c.loop-bundle.bundle-index c.bundle-item.result
      c.loop-bundle-test.true c.loop-bundle.invariant.rise
      (subst (λ b. HasRisingIds b.now) c.bundle-item.is c.in_ok-add_message_lists.ensures.rise);
  hold = all_more (λ b. HoldAll g.M.Plain.is_value b.now) c.args.bundles.now c.loop-bundle.bundle-index c.bundle-item.result
      c.loop-bundle-test.true c.loop-bundle.invariant.hold
      (subst (λ b. HoldAll g.M.Plain.is_value b.now) c.bundle-item.is c.in_ok-add_message_lists.ensures.hold);
}

pub returns-clause-items : goal.returns-clause-items
returns-clause-items g c =
    c.loop-bundle.invariant.items
    ∙ ap (flat_map (λ b. b.now)) (take_all c.loop-bundle.bundle-index c.args.bundles.now c.loop-bundle-test.false)

pub returns-clause-rise : goal.returns-clause-rise
returns-clause-rise g c =
    subst (AllByRecursion (λ b. HasRisingIds b.now)) (take_all c.loop-bundle.bundle-index c.args.bundles.now c.loop-bundle-test.false)
    c.loop-bundle.invariant.rise

pub returns-clause-hold : goal.returns-clause-hold
returns-clause-hold g c =
    subst (AllByRecursion (λ b. HoldAll g.M.Plain.is_value b.now)) (take_all c.loop-bundle.bundle-index c.args.bundles.now c.loop-bundle-test.false)
    c.loop-bundle.invariant.hold
