use Rattle.std.proofs.Common.{map, subst}
use Rattle.std.proofs.lemmas.List.{take_all}
use Rattle.pg_part_routing.specs.Sending.{HaveMore}
use Rattle.pg_part_routing.proofs.Splitting.{have_pushed}
use Rattle.pg_part_routing.proofs.sending.push_pairs.Goals as goal

pub loop-target-preserved : goal.loop-target-preserved
loop-target-preserved g c = record {
  len = c.in_ok-put.ensures.len;
  more = have_pushed c.args.partitions (λ m. (m.0, (c.args.sender, m.0))) c.args.sent.now c.loop-target.target-index _ _ _ c.loop-target-test.true
      c.loop-target-item.is c.loop-target.invariant.more c.in_ok-put.ensures.more;
}

pub returns-clause-more : goal.returns-clause-more
returns-clause-more g c =
    subst (λ l. HaveMore c.args.partitions (map (λ m. (m.0, (c.args.sender, m.0))) l) c.args.parts.now.items c.loop-target.parts.items)
    (take_all c.loop-target.target-index c.args.sent.now c.loop-target-test.false) c.loop-target.invariant.more
