use Rattle.std.proofs.Common.{◌≡◌, subst, rules}
use Rattle.std.proofs.lemmas.Result.{IfOk-weaker}
use Rattle.pg_inbox.specs.LoggedBundle.{slot_at}
use Rattle.pg_part_routing.specs.Routes.{AreSameTo}
use Rattle.pg_part_compute.proofs.changed.changed_before.Goals as goal

pub returns-in-Some : goal.returns-in-Some
returns-in-Some g c =
    IfOk-weaker c.changed_at.result _ _ (λ ids is s q id next below other.
    let same : c.new-before.result ≡ s = search rules in
    subst (λ k. AreSameTo id (slot_at c.args.old_logs.now k q c.args.to) (slot_at c.args.logs.now k q c.args.to)) same (is q id below other))
    c.changed_at.ensures
