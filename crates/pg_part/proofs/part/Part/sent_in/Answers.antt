use Rattle.std.proofs.Common.{ap, ◌∙◌}
use Rattle.std.proofs.lemmas.Result.{IfOk-weaker}
use Rattle.pg_part.proofs.Resuming.{sent_again}
use Rattle.pg_part.proofs.part.Part.sent_in.Goals as goal

pub returns-clause-right : goal.returns-clause-right
returns-clause-right g c =
    IfOk-weaker c.recorded_bundles.result _ _ (λ sent fresh. λ job kept rows n p r q combining held below within.
    sent_again job rows n p kept r q c.args.superstep c.args.self.now combining
    (c.partitions-partitions.ensures ∙ ap (λ s. s.part_run.partitions) c.self.view_is) (c.trace-trace.ensures ∙ ap (λ s. s.part_run.trace) c.self.view_is)
    held below within sent fresh) c.recorded_bundles.ensures.sends
