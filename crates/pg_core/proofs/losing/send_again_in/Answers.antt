use Rattle.std.proofs.Common.{subst}
use Rattle.std.proofs.lemmas.Result.{on_ok_weaker}
use Rattle.pg_core.specs.Progress.{HasPut}
use Rattle.pg_core.proofs.Resending.{sent_in}
use Rattle.pg_core.proofs.losing.send_again_in.Goals as goal

pub returns : goal.returns
returns g c =
    let part = c.args.part.now in
    on_ok_weaker c.put_all.result
    (λ put. sent_in (g.C.MessageCombiner.combining c.args.combiner.now) part.part_run.partitions c.args.partition part.part_run.trace c.args.superstep
    c.in_ok-sent.sent c.args.logs.now c.put_all.new.logs c.in_ok-sent.ensures.to_each c.in_ok-sent.ensures.sends
    (subst (λ l. HasPut c.args.superstep c.args.partition l c.args.logs.now c.put_all.new.logs) c.into_bundles.ensures put))
    c.put_all.ensures
