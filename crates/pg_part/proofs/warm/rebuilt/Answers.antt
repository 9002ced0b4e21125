use Rattle.std.proofs.Common.{◌<◌, subst}
use Rattle.std.specs.Prelude.{IfOk}
use Rattle.pg_part.specs.PartRun.{PartRunState}
use Rattle.pg_part.specs.Warm.{IsSentWarm}
use Rattle.pg_part.proofs.Both.{if_ok_both}
use Rattle.pg_part.proofs.warm.rebuilt.Goals as goal

pub returns-clause-some : goal.returns-clause-some
returns-clause-some g c = subst (λ h. 0 < h.partitions) c.part_run.view_is c.rebuilt_bundles.ensures.some

pub returns-clause-sent : goal.returns-clause-sent
returns-clause-sent g c =
    let combining = g.C.MessageCombiner.combining c.args.combiner.now in
    let rebuilt = c.rebuilt_bundles.ensures in
    subst (λ (h : PartRunState g.row.V.Denot g.row.M.Denot).
    IfOk c.rebuilt_bundles.result (λ sent. IsSentWarm combining h c.args.old.now c.args.old_logs.now c.args.changes.now sent)) c.part_run.view_is
    (if_ok_both c.rebuilt_bundles.result _ _ _ (λ sent to_each sends. record { to_each = to_each; sends = sends }) rebuilt.to_each rebuilt.sends)
