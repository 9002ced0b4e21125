use Rattle.std.proofs.Common.{ℕ, take, ap, ◌∙◌, subst}
use Rattle.pg_core.specs.Progress.{HasPut}
use Rattle.pg_core.proofs.running.note_step.Goals as goal

pub returns-clause-logs : goal.returns-clause-logs
returns-clause-logs g c =
    let bundles =
    c.truncate.ensures.items
    ∙ (ap (λ (n : ℕ). take n c.into_bundles-bundles.result.items) c.partitions.ensures.value
    ∙ ap (take c.args.limits.partitions) c.into_bundles-bundles.ensures) in
    subst (λ l. HasPut c.args.superstep c.args.from l c.args.logs.now c.put_all.new.logs) bundles c.in_ok-put_all.ensures
