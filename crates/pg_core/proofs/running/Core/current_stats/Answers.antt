use Rattle.std.proofs.Common.{◌≡◌, ℕ, ◌<◌, length, Some, refl, sym, ap, ◌∙◌, subst, flat_map}
use Rattle.std.specs.Option.{IsSome}
use Rattle.pg_core_machine.specs.Machine.{place_at}
use Rattle.pg_core.specs.Progress.{job_of_core, part_at}
use Rattle.pg_core.specs.Together.{stats_here}
use Rattle.pg_core.proofs.Ends.{stats_between}
use Rattle.pg_core_machine.proofs.LawsSteps.{length-places_lawful}
use Rattle.pg_core.proofs.AllStats.{length-gathered, stats_are}
use Rattle.pg_model.specs.Run.{visible_at}
use Rattle.pg_stats.specs.GlobalStats.{aggregators_of, stats_of_all}
use Rattle.pg_core.proofs.running.Core.current_stats.Goals as goal

pub returns-clause-places : goal.returns-clause-places
returns-clause-places g c =
    let master = g.M.MasterCompute.master in
    let inside = c.self.inside in
    let registry_is = c.self.invariant.registry_is in
    let shown = c.as_slice-seen.ensures in
    let seen =
    ap length shown
    ∙ (c.visible-visible.ensures.places ∙ (ap (λ core. length (master core.master).registrations) (sym c.self.view_is) ∙ ap length (sym registry_is))) in
    length-gathered inside.registry c.as_slice-seen.result.now _ c.in_ok-stats.stats c.in_ok-stats.ensures.value seen
    ∙ (ap length registry_is ∙ ap (λ core. length (master core.master).registrations) c.self.view_is)

pub returns-clause-right : goal.returns-clause-right
returns-clause-right g c kept right =
    let core = c.args.self.now in
    let inside = c.self.inside in
    let master = g.M.MasterCompute.master in
    let job = job_of_core g.P.Computation.program g.C.MessageCombiner.combining master core in
    let s = core.state.current in
    let n = core.limits.partitions in
    let registered = (master core.master).registrations in
    let many =
    subst (λ core. length core.state.places ≡ core.limits.partitions) c.self.view_is
    (length-places_lawful inside.limits inside.state inside.history.items c.self.invariant.events) in
    let each = subst (λ core. length core.parts ≡ core.limits.partitions) c.self.view_is c.self.invariant.each in
    let stays =
    subst (λ core. (p r : ℕ) → place_at p core.state ≡ Some r → core.state.current < r → IsSome (part_at p core))
    c.self.view_is c.self.invariant.stays in
    let some = subst (λ core. 0 < core.limits.partitions) c.self.view_is c.self.invariant.limits_are.partitions_least in
    let now = c.current.ensures ∙ ap (λ core. core.state.current) c.self.view_is in
    let registry_is = c.self.invariant.registry_is ∙ ap (λ core. (master core.master).registrations) c.self.view_is in
    let parts_are = c.as_slice.ensures.value ∙ ap (λ core. core.parts) c.self.view_is in
    let shows = c.as_slice-seen.ensures ∙ ap (λ v. v.values) (c.visible-visible.ensures.right kept right ∙ ap (visible_at job core.graph) now) in
    let stats = c.in_ok-stats.ensures.value
    ∙ (λ i. stats_of_all (aggregators_of (registry_is i)) c.as_slice-seen.result.now (flat_map stats_here (parts_are i)))
    ∙ ap (stats_of_all (aggregators_of registered) c.as_slice-seen.result.now) (stats_are job kept core right many each stays c.requires) in
    stats_between job core.graph n some registered refl s c.as_slice-seen.result.now c.in_ok-stats.stats shows c.in_ok-stats.ensures.fits stats
