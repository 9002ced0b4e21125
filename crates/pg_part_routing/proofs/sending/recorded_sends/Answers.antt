use Rattle.std.proofs.Common.{Some, map, subst}
use Rattle.std.proofs.lemmas.List.{take_all}
use Rattle.pg_part_routing.specs.Sending.{AreParts, HaveMore, sends_by, sends_by_records}
use Rattle.pg_part_routing.proofs.Splitting.{have_gathered}
use Rattle.pg_part_routing.proofs.sending.recorded_sends.Goals as goal

pub loop-sender-preserved : goal.loop-sender-preserved
loop-sender-preserved g c =
    let n = c.args.partitions in
    let one = c.loop-sender-item.result in
    record {
      len = c.in_ok-push_sends.ensures.len;
      parts = have_gathered n (λ r. sends_by r.0 (Some r.1)) c.args.records.now c.loop-sender.sender-index _ _ c.loop-sender-test.true
          c.loop-sender-item.is c.loop-sender.invariant.parts
          (subst (λ sent. HaveMore n (map (λ m. (m.0, (one.0, m.0, m.1))) sent) c.loop-sender.parts.items c.push_sends.new.parts.items) c.sent.ensures
          c.in_ok-push_sends.ensures.more);
    }

pub returns-clause-parts : goal.returns-clause-parts
returns-clause-parts g c =
    subst (λ l. AreParts c.args.partitions (sends_by_records l) c.loop-sender.parts.items)
    (take_all c.loop-sender.sender-index c.args.records.now c.loop-sender-test.false) c.loop-sender.invariant.parts
