use Rattle.std.proofs.Common.{◌<◌, ◌≤◌, subst}
use Rattle.std.specs.List.{flat_map}
use Rattle.std.proofs.lemmas.List.{take_all}
use Rattle.pg_part_routing.specs.Sending.{AreParts, sends_of}
use Rattle.pg_part_routing.proofs.Splitting.{have_gathered}
use Rattle.pg_part_routing.proofs.sending.sends_of.Goals as goal

pub loop-place-preserved : goal.loop-place-preserved
loop-place-preserved g c = record {
  len = c.in_ok-add_sends.ensures.len;
  parts = have_gathered c.args.partitions sends_of c.args.changes.now c.loop-place.place _ _
      (subst (λ n. c.loop-place.place < n) c.len-place-end.ensures c.loop-place-test.true) (c.at-sender.ensures c.at-sender.result)
      c.loop-place.invariant.parts c.in_ok-add_sends.ensures.more;
}

pub returns-clause-parts : goal.returns-clause-parts
returns-clause-parts g c =
    subst (λ l. AreParts c.args.partitions (flat_map sends_of l) c.loop-place.parts.items)
    (take_all c.loop-place.place c.args.changes.now (subst (λ n. n ≤ c.loop-place.place) c.len-place-end.ensures c.loop-place-test.false))
    c.loop-place.invariant.parts
