use Rattle.std.proofs.Common.{◌++◌, ap, map, subst, sym, ◌∙◌}
use Rattle.std.specs.Option.{option_to_list}
use Rattle.std.proofs.lemmas.Grind.{flat_map-append}
use Rattle.std.proofs.lemmas.List.{append-nil, map-append, take_all}
use Rattle.pg_map.specs.Entries.{value_at}
use Rattle.pg_inbox_bundles.specs.Holding.{HoldsAt}
use Rattle.pg_inbox.specs.Inboxes.{contents_to}
use Rattle.pg_map.proofs.Filling.{all_more, joined_more}
use Rattle.std.specs.List.{AllByRecursion}
use Rattle.pg_inbox.proofs.receiving.message_lists_at.Goals as goal

pub loop-bundle-preserved : goal.loop-bundle-preserved
loop-bundle-preserved g c =
    let id = c.args.id in
    let before = map (λ p. p.1) c.loop-bundle.message_lists.items in
    let bundle = c.bundle-item.result in
    let all = c.args.bundles.now in
    let i = c.loop-bundle.bundle-index in
    record {
      items = joined_more (λ bs. contents_to id (map (λ b. b.now) bs))
          (λ xs ys. ap (contents_to id) (map-append (λ b. b.now) xs ys)
          ∙ flat_map-append (λ b. option_to_list (value_at id b)) (map (λ b. b.now) xs) (map (λ b. b.now) ys))
          all i c.loop-bundle-test.true c.bundle-item.is c.loop-bundle.invariant.items
          (c.in_ok-add_message_list.ensures.items ∙ ap (λ l. before ++ l) (sym (append-nil (option_to_list (value_at id bundle.now)))));
      hold = all_more (λ b. HoldsAt g.M.Plain.is_value (value_at id b.now)) all i bundle c.loop-bundle-test.true c.loop-bundle.invariant.hold
          (subst (λ b. HoldsAt g.M.Plain.is_value (value_at id b.now)) c.bundle-item.is c.in_ok-add_message_list.ensures.holds);
    }

pub returns-clause-items : goal.returns-clause-items
returns-clause-items g c =
    c.loop-bundle.invariant.items
    ∙ ap (λ bs. contents_to c.args.id (map (λ b. b.now) bs)) (take_all c.loop-bundle.bundle-index c.args.bundles.now c.loop-bundle-test.false)

pub returns-clause-hold : goal.returns-clause-hold
returns-clause-hold g c =
    subst (AllByRecursion (λ b. HoldsAt g.M.Plain.is_value (value_at c.args.id b.now)))
    (take_all c.loop-bundle.bundle-index c.args.bundles.now c.loop-bundle-test.false) c.loop-bundle.invariant.hold
