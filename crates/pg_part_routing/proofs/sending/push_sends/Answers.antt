use Rattle.std.proofs.Common.{[], ◌∷◌, map, subst}
use Rattle.std.proofs.lemmas.List.{take_all}
use Rattle.pg_part_routing.specs.Sending.{HaveMore}
use Rattle.pg_part_routing.proofs.Splitting.{have_pushed}
use Rattle.pg_part_routing.proofs.sending.push_sends.Goals as goal

pub loop-target-preserved : goal.loop-target-preserved
loop-target-preserved g c =
    let n = c.args.partitions in
    let sender = c.args.sender in
    let one = c.loop-target-item.result in
    record {
      len = c.in_ok-put_send.ensures.len;
      more = have_pushed n (λ m. (m.0, (sender, m.0, m.1))) c.args.sent.now c.loop-target.target-index _ _ _ c.loop-target-test.true c.loop-target-item.is
          c.loop-target.invariant.more
          (subst (λ m. HaveMore n ((one.0, (sender, one.0, m)) ∷ []) c.loop-target.parts.items c.put_send.new.parts.items) c.in_ok-message.ensures
          c.in_ok-put_send.ensures.more);
    }

pub returns-clause-more : goal.returns-clause-more
returns-clause-more g c =
    subst (λ l. HaveMore c.args.partitions (map (λ m. (m.0, (c.args.sender, m.0, m.1))) l) c.args.parts.now.items c.loop-target.parts.items)
    (take_all c.loop-target.target-index c.args.sent.now c.loop-target-test.false) c.loop-target.invariant.more
