use Rattle.std.proofs.Common.{ap, ◌∙◌}
use Rattle.std.proofs.lemmas.Result.{IfOk-weaker}
use Rattle.pg_part_routing.specs.Routes.{bundles_before}
use Rattle.pg_part.proofs.part_run.PartRun.received.Goals as goal

pub returns : goal.returns
returns g c =
    IfOk-weaker c.bundles_before.result _ _
    (λ bundles is. is ∙ ap (λ h. bundles_before c.args.logs.now h.partitions h.partition h.place) c.self.view_is) c.bundles_before.ensures.value
