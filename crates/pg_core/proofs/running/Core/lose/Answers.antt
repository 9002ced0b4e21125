use Rattle.std.proofs.Common.{refl, ◌≡◌, ℕ, true, ap, sym, ◌∙◌, subst}
use Rattle.pg_core.specs.Losing.{AreLost, IsForgotten, with_event}
use Rattle.pg_core.specs.Progress.{IsLawful, IsRight, job_of_core}
use Rattle.pg_core.proofs.Recovery.{IsLawful-lose, IsRight-lose}
use Rattle.pg_core_machine.specs.Machine.{Reaches, after, first_state, is_allowed}
use Rattle.pg_core_machine.specs.declared.event.Event.TheVariants.{Lose}
use Rattle.pg_core.proofs.Moved.{moved}
use Rattle.pg_core.proofs.running.Core.lose.Goals as goal

pub invariant_of-self-2 : goal.invariant_of-self-2
invariant_of-self-2 g c =
    let inside = c.self.inside in
    let declared = (g.P.Computation.program inside.program.now).declared in
    let registered = (g.M.MasterCompute.master inside.master.now).registrations in
    let w = c.args.worker in
    let parts = c.lose_hosted.new.parts.items in
    let allowed = subst (λ core. is_allowed core.state (Lose w) ≡ true) (sym c.self.view_is) c.requires in
    subst (λ state. IsLawful inside.limits declared registered inside.registry state c.push.new.self.items parts inside.shown.items inside.run_totals)
    (sym c.lose.ensures)
    (subst (λ events. IsLawful inside.limits declared registered inside.registry (after inside.state (Lose w)) events parts
    inside.shown.items inside.run_totals) (sym c.in_ok-push.ensures.items)
    (IsLawful-lose c.self.invariant w parts allowed c.lose_hosted.ensures.parts))

pub returns-clause-right : goal.returns-clause-right
returns-clause-right g c kept right =
    let inside = c.self.inside in
    let core = c.args.self.now in
    let job = job_of_core g.P.Computation.program g.C.MessageCombiner.combining g.M.MasterCompute.master core in
    let w = c.args.worker in
    let parts = c.lose_hosted.new.parts.items in
    let logs = c.lose_hosted.new.logs in
    let events =
    subst (λ core. Reaches (first_state core.limits.partitions core.limits.workers) core.history core.state) c.self.view_is c.self.invariant.events in
    let lost = subst (λ core. AreLost w core.state core.parts parts) c.self.view_is c.lose_hosted.ensures.parts in
    let forgotten =
    subst (λ core. IsForgotten core.limits.partitions w core.state core.logs logs) c.self.view_is
    (subst (λ (n : ℕ). IsForgotten n w inside.state inside.logs logs) c.partitions-partitions.ensures.value c.lose_hosted.ensures.logs) in
    let seen = moved c.self.view_is c.lose.ensures c.in_ok-push.ensures.items refl in
    let new = seen ∙ ap (λ core. record (with_event (Lose w) core) { parts = parts; logs = logs }) c.self.view_is in
    subst (IsRight job kept) (sym new) (IsRight-lose job kept core right events w parts logs lost forgotten)
