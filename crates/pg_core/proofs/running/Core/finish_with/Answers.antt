use Rattle.std.proofs.Common.{◌≡◌, ℕ, ◌+◌, ◌<◌, ◌≤◌, Some, true, length, sym, ap, ◌∙◌, subst, subst₂, arith}
use Rattle.std.specs.Option.{IsSome, unwrap_or}
use Rattle.std.proofs.lemmas.List.Elements.{All-weaker}
use Rattle.std.proofs.lemmas.Result.{IfOk-weaker}
use Rattle.pg_core_machine.specs.Machine.{place_at}
use Rattle.pg_core.specs.Progress.{job_of_core, part_at}
use Rattle.pg_core.specs.Traces.{HaveRetained, IsRetainedBy}
use Rattle.pg_core_machine.proofs.LawsMachine.{place_at_end}
use Rattle.pg_core.proofs.RetainedPart.{answer_is, ending_last, left_as, run_totals_last}
use Rattle.pg_model.specs.declared.run.Ending.TheVariants.{LimitReached}
use Rattle.pg_core.proofs.running.Core.finish_with.Goals as goal

pub finished-requires-clause-here : goal.finished-requires-clause-here
finished-requires-clause-here g c =
    let inside = c.self.inside in
    let ended = subst (λ core. core.state.ended ≡ true) (sym c.self.view_is) c.requires in
    λ κs lives p within. c.self.invariant.stays p (inside.state.current + 1)
    (place_at_end inside.limits.partitions inside.limits.workers inside.history.items inside.state c.self.invariant.events ended p
    (omega (arith, within, c.self.invariant.each)))
    (omega arith)

pub invariant_of-retained_run : goal.invariant_of-retained_run
invariant_of-retained_run g c =
    let registered = (g.M.MasterCompute.master c.self.inside.master.now).registrations in
    All-weaker (λ v. length v.values ≡ length registered) (λ v. length v.values ≤ 16) (λ v same. subst (λ (n : ℕ). n ≤ 16) (sym same) c.self.invariant.few)
    c.self.inside.shown.items c.self.invariant.shown_places

pub returns-clause-each : goal.returns-clause-each
returns-clause-each g c =
    IfOk-weaker c.finished.result _ _
    (λ done given. given.each ∙ (c.self.invariant.each ∙ ap (λ core. core.limits.partitions) c.self.view_is))
    c.finished.ensures

pub returns-clause-places : goal.returns-clause-places
returns-clause-places g c =
    IfOk-weaker c.finished.result _ _
    (λ done given. ap (λ r. length r.aggregates) given.answers
    ∙ (c.self.invariant.gathered_places ∙ ap (λ core. length (g.M.MasterCompute.master core.master).registrations) c.self.view_is))
    c.finished.ensures

pub returns-clause-finished : goal.returns-clause-finished
returns-clause-finished g c =
    let core = c.args.self in
    let inside = c.self.inside in
    let job = job_of_core g.P.Computation.program g.C.MessageCombiner.combining g.M.MasterCompute.master core in
    let rows = core.graph in
    let ended = c.requires in
    let places =
    subst (λ core. core.state.ended ≡ true → (p : ℕ) → p < core.limits.partitions → place_at p core.state ≡ Some (core.state.current + 1))
    c.self.view_is
    (place_at_end inside.limits.partitions inside.limits.workers inside.history.items inside.state c.self.invariant.events) ended in
    let stays =
    subst (λ core. (p r : ℕ) → place_at p core.state ≡ Some r → core.state.current < r → IsSome (part_at p core))
    c.self.view_is c.self.invariant.stays in
    let here : (p : ℕ) → p < core.limits.partitions → IsSome (part_at p core) = λ p within. stays p (core.state.current + 1) (places p within) (omega arith) in
    let each = subst (λ core. length core.parts ≡ core.limits.partitions) c.self.view_is c.self.invariant.each in
    let many = c.next_superstep-supersteps.ensures.value in
    IfOk-weaker c.finished.result _ _
    (λ done given kept right values.
    let counts = ap (λ core. core.run_totals) c.self.view_is ∙ run_totals_last job kept core right ended places here each in
    let ends =
    ap (λ core. unwrap_or core.ending LimitReached) c.self.view_is
    ∙ ap (λ e. unwrap_or e LimitReached) (ending_last job kept core right ended places here each) in
    let retained_parts = subst (λ (m : ℕ). HaveRetained (core.state.current + 1) core.parts m done.1.retained_parts) each
    (subst₂ (λ (s : ℕ) parts. HaveRetained s parts (length parts) done.1.retained_parts) many (ap (λ core. core.parts) c.self.view_is) given.retained_parts) in
    let retained_parts_each = given.each ∙ (ap (λ core. length core.parts) c.self.view_is ∙ each) in
    record {
      answers =
          given.answers
          ∙ answer_is job rows core.state.current (right.at_end ended) c.args.values inside.run_totals
          (unwrap_or inside.ending LimitReached) c.next_superstep-supersteps.result values counts ends many;
      leaves = subst (IsRetainedBy job rows core.limits.partitions) (sym given.others)
          (left_as job kept core right ended places here each done.1.retained_parts inside.graph.now inside.logs inside.shown.items c.args.values retained_parts_each retained_parts
          (ap (λ core. core.graph) c.self.view_is) (ap (λ core. core.logs) c.self.view_is)
          (ap (λ core. core.shown) c.self.view_is) values);
    })
    c.finished.ensures
