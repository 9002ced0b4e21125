use Rattle.std.proofs.Common.{◌≡◌, ℤ, List, ◌+◌, is_some, refl, sym, ap, ◌∙◌, subst, arith, cond}
use Rattle.pg_core.specs.Progress.{IsRight, job_of_core, run_totals_at}
use Rattle.pg_core_machine.specs.Machine.{Reaches, first_state}
use Rattle.pg_core_machine.specs.declared.event.Closed.TheVariants.{Next, Ended}
use Rattle.pg_core_machine.specs.declared.event.Event.TheVariants.{Close}
use Rattle.pg_core.proofs.Ends.{IsRight-end, IsRight-next, not_ended, run_totals_next, visible_next}
use Rattle.pg_model.specs.Superstep.{capped, visible_in}
use Rattle.pg_stats.proofs.LawsEnding.{ends_last, goes_on}
use Rattle.pg_core.proofs.running.Core.close_with.Goals as goal

pub returns-in_ok-end-in-Some-clause-right : goal.returns-in_ok-end-in-Some-clause-right
returns-in_ok-end-in-Some-clause-right g c kept right are =
    let core = c.args.self.now in
    let job = job_of_core g.P.Computation.program g.C.MessageCombiner.combining g.M.MasterCompute.master core in
    let rows = core.graph in
    let s = core.state.current in
    let stats = c.args.stats in
    let run_totals = c.after-run_totals.result in
    let on = not_ended core.state (Close Next) c.requires.allowed in
    let here = sym c.in-Some.is ∙ c.ending_with-ending.ensures.right kept right are in
    let last = ends_last job rows s right.within (ap is_some (sym here)) in
    let so_far = right.run_totals ∙ ap (λ b. run_totals_at job rows (cond b (s + 1) s)) on in
    let counts = run_totals_next job rows s stats are core.run_totals run_totals so_far (ap (λ t. t.gathered) c.after-run_totals.ensures)
    (ap (λ t. t.sent) c.after-run_totals.ensures ∙ ap (λ core. capped (core.run_totals.sent + stats.sent)) c.self.view_is)
    (ap (λ t. t.dropped) c.after-run_totals.ensures ∙ ap (λ core. capped (core.run_totals.dropped + stats.dropped)) c.self.view_is) in
    let events =
    subst (λ core. Reaches (first_state core.limits.partitions core.limits.workers) core.history core.state) c.self.view_is c.self.invariant.events in
    record {
      right = subst (IsRight job kept) (sym c.in_ok-end-in-Some.ensures) (IsRight-end job kept core right events c.in-Some.ending run_totals (sym last) (sym here) counts);
      ends = (λ ended. sym last, λ is. refl);
    }

pub returns-in_ok-open_next-in-None-clause-right : goal.returns-in_ok-open_next-in-None-clause-right
returns-in_ok-open_next-in-None-clause-right g c kept right are =
    let core = c.args.self.now in
    let job = job_of_core g.P.Computation.program g.C.MessageCombiner.combining g.M.MasterCompute.master core in
    let rows = core.graph in
    let s = core.state.current in
    let stats = c.args.stats in
    let run_totals = c.after-run_totals.result in
    let on = not_ended core.state (Close Next) c.requires.allowed in
    let within = goes_on job rows s right.within (ap is_some (sym (c.ending_with-ending.ensures.right kept right are) ∙ c.in-None.is)) in
    let so_far = right.run_totals ∙ ap (λ b. run_totals_at job rows (cond b (s + 1) s)) on in
    let counts = run_totals_next job rows s stats are core.run_totals run_totals so_far (ap (λ t. t.gathered) c.after-run_totals.ensures)
    (ap (λ t. t.sent) c.after-run_totals.ensures ∙ ap (λ core. capped (core.run_totals.sent + stats.sent)) c.self.view_is)
    (ap (λ t. t.dropped) c.after-run_totals.ensures ∙ ap (λ core. capped (core.run_totals.dropped + stats.dropped)) c.self.view_is) in
    let shows = ap (λ (gathered : List ℤ). visible_in job.deciding (record {
      vertices = stats.vertices;
      edges = stats.edges;
    }) (s + 1) gathered) (ap (λ t. t.gathered) c.after-run_totals.ensures)
    ∙ visible_next job rows s stats are in
    let events =
    subst (λ core. Reaches (first_state core.limits.partitions core.limits.workers) core.history core.state) c.self.view_is c.self.invariant.events in
    record {
      right = subst (IsRight job kept) (sym c.in_ok-open_next-in-None.ensures) (IsRight-next job kept core right events _ run_totals on within shows counts);
      ends = (λ ended. absurd (let apart : Next ≡ Ended = ended in cc), λ is. absurd (omega (arith, is, within)));
    }
