use Rattle.std.proofs.Common.{[], ap, flat_map, map, ◌∙◌}
use Rattle.std.proofs.lemmas.List.{take_all}
use Rattle.pg_inbox_bundles.proofs.ToTarget.{gathered_parts}
use Rattle.pg_inbox.proofs.receiving.envelopes_in.Goals as goal

pub loop-message_list-preserved : goal.loop-message_list-preserved
loop-message_list-preserved g c =
    gathered_parts (λ p. p.1) (λ p. p.envelopes) [] c.args.message_lists.now c.loop-message_list.message_list-index c.loop-message_list-test.true c.loop-message_list-item.is
    c.loop-message_list.invariant c.in_ok-copy_envelopes.ensures

pub returns : goal.returns
returns g c =
    c.loop-message_list.invariant
    ∙ ap (λ l. flat_map (λ p. p.envelopes) (map (λ p. p.1) l)) (take_all c.loop-message_list.message_list-index c.args.message_lists.now c.loop-message_list-test.false)
