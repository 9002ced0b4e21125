use Rattle.std.proofs.Common.{◌||◌, ◌&&◌, is_some, take, ap, ◌∙◌, subst, sym}
use Rattle.std.specs.List.{AllByRecursion}
use Rattle.std.proofs.lemmas.List.{take_all}
use Rattle.pg_map.specs.Entries.{value_at}
use Rattle.pg_map.proofs.Filling.{all_more}
use Rattle.pg_model.specs.Superstep.{has_id}
use Rattle.pg_inbox_bundles.specs.Holding.{HoldAll}
use Rattle.pg_inbox.specs.Inboxes.{is_receiver}
use Rattle.pg_inbox.proofs.Among.{and_false, or_and_other, or_false}
use Rattle.pg_inbox.proofs.Delivery.{is_receiver-more}
use Rattle.pg_inbox.proofs.receiving.add_receivers.Goals as goal

pub loop-bundle-init : goal.loop-bundle-init
loop-bundle-init g c = record {
  added = λ q.
      let before = has_id c.args.receivers.now.items q in
      sym (ap (λ b. before || b) (and_false (has_id c.args.ids.now q)) ∙ or_false before);
  hold = tt;
}

pub loop-bundle-preserved : goal.loop-bundle-preserved
loop-bundle-preserved g c =
    let bundles = c.args.bundles.now in
    let i = c.loop-bundle.bundle-index in
    let bundle = c.bundle-item.result in
    record {
      added = λ q.
          let before = has_id c.args.receivers.now.items q in
          let asked = has_id c.args.ids.now q in
          c.in_ok-add_receivers_of.ensures.added q
          ∙ ap (λ b. b || (asked && is_some (value_at q bundle))) (c.loop-bundle.invariant.added q)
          ∙ or_and_other before asked (is_receiver (take i bundles) q) (is_some (value_at q bundle))
          ∙ ap (λ b. before || (asked && b)) (sym (is_receiver-more q bundles i bundle c.loop-bundle-test.true c.bundle-item.is));
      hold = all_more (HoldAll g.M.Plain.is_value) bundles i bundle c.loop-bundle-test.true c.loop-bundle.invariant.hold
          (subst (HoldAll g.M.Plain.is_value) c.bundle-item.is c.in_ok-add_receivers_of.ensures.hold);
    }

pub returns-clause-added : goal.returns-clause-added
returns-clause-added g c q =
    let all = take_all c.loop-bundle.bundle-index c.args.bundles.now c.loop-bundle-test.false in
    c.loop-bundle.invariant.added q
    ∙ ap (λ bundles. has_id c.args.receivers.now.items q || (has_id c.args.ids.now q && is_receiver bundles q)) all

pub returns-clause-hold : goal.returns-clause-hold
returns-clause-hold g c =
    subst (AllByRecursion (HoldAll g.M.Plain.is_value)) (take_all c.loop-bundle.bundle-index c.args.bundles.now c.loop-bundle-test.false)
    c.loop-bundle.invariant.hold
