use Rattle.std.proofs.Common.{◌<◌, ◌≤◌, subst}
use Rattle.std.specs.List.{flat_map}
use Rattle.std.proofs.lemmas.List.{take_all}
use Rattle.pg_part_routing.specs.Sending.{AreParts, HaveMore, pairs_by, pairs_of}
use Rattle.pg_part_routing.proofs.Splitting.{have_gathered}
use Rattle.pg_part_routing.proofs.sending.retracted_of.Goals as goal

pub loop-place-preserved : goal.loop-place-preserved
loop-place-preserved g c =
    let n = c.args.partitions in
    let change = c.at-sender.result in
    record {
      len = c.in_ok-add_pairs.ensures.len;
      parts = have_gathered n (pairs_of c.args.old.now c.args.superstep) c.args.changes.now c.loop-place.place _ _
          (subst (λ n. c.loop-place.place < n) c.len-place-end.ensures c.loop-place-test.true) (c.at-sender.ensures change)
          c.loop-place.invariant.parts
          (subst (λ by. HaveMore n (pairs_by change.0 by) c.loop-place.parts.items c.add_pairs.new.parts.items) c.record_at-before.ensures
          c.in_ok-add_pairs.ensures.more);
    }

pub returns-clause-parts : goal.returns-clause-parts
returns-clause-parts g c =
    subst (λ l. AreParts c.args.partitions (flat_map (pairs_of c.args.old.now c.args.superstep) l) c.loop-place.parts.items)
    (take_all c.loop-place.place c.args.changes.now (subst (λ n. n ≤ c.loop-place.place) c.len-place-end.ensures c.loop-place-test.false))
    c.loop-place.invariant.parts
