use Rattle.std.proofs.Common.{ℕ, subst}
use Rattle.pg_core.specs.Losing.{HasSentIn}
use Rattle.pg_core.proofs.Resending.{again_more, again_none}
use Rattle.pg_core.proofs.losing.send_again.Goals as goal

pub loop-number-init : goal.loop-number-init
loop-number-init g c =
    let part = c.args.part.now in
    record {
      again = again_none (g.C.MessageCombiner.combining c.args.combiner.now) part.part_run.partitions c.args.partition part.part_run.trace c.args.logs.now;
    }

pub loop-number-preserved : goal.loop-number-preserved
loop-number-preserved g c =
    let part = c.args.part.now in
    let combining = g.C.MessageCombiner.combining c.args.combiner.now in
    let n = part.part_run.partitions in
    let p = c.args.partition in
    let trace = part.part_run.trace in
    record {
      again = again_more combining n p trace c.loop-number.number c.args.logs.now c.loop-number.logs c.send_again_in.new.logs
          c.loop-number.invariant.again
          (subst (λ (s : ℕ). HasSentIn combining n p s trace c.loop-number.logs c.send_again_in.new.logs) c.new.ensures c.in_ok-send_again_in.ensures);
    }
