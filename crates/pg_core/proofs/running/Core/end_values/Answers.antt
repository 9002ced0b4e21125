use Rattle.std.proofs.Common.{◌≡◌, ℕ, ◌+◌, ◌<◌, None, Some, option_map, true, cond, length, sym, ap, ◌∙◌, subst, subst₂, arith}
use Rattle.std.proofs.lemmas.Result.{IfOk-weaker}
use Rattle.std.specs.List.{list_all}
use Rattle.std.specs.Option.{IsSome}
use Rattle.pg_core_machine.specs.Machine.{place_at}
use Rattle.pg_core.specs.Progress.{job_of_core, kept_for, part_at}
use Rattle.pg_core.specs.Traces.{ended_by}
use Rattle.pg_core_values.specs.Values.{HaveEnded, KeepsEnd, is_warm}
use Rattle.pg_core_machine.proofs.LawsMachine.{place_at_end}
use Rattle.pg_core.proofs.RetainedPart.{end_borrowed, have_all_ended}
use Rattle.pg_model.specs.Run.{configuration, values_of}
use Rattle.pg_core.proofs.running.Core.end_values.Goals as goal

pub returns : goal.returns
returns g c =
    let core = c.args.self.now in
    let inside = c.self.inside in
    let job = job_of_core g.P.Computation.program g.C.MessageCombiner.combining g.M.MasterCompute.master core in
    let rows = core.graph in
    let n = core.limits.partitions in
    let ended = c.requires in
    let places =
    subst (λ core. core.state.ended ≡ true → (p : ℕ) → p < core.limits.partitions → place_at p core.state ≡ Some (core.state.current + 1))
    c.self.view_is
    (place_at_end inside.limits.partitions inside.limits.workers inside.history.items inside.state c.self.invariant.events) ended in
    let stays =
    subst (λ core. (p r : ℕ) → place_at p core.state ≡ Some r → core.state.current < r → IsSome (part_at p core))
    c.self.view_is c.self.invariant.stays in
    let here : (p : ℕ) → p < n → IsSome (part_at p core) = λ p within. stays p (core.state.current + 1) (places p within) (omega arith) in
    let each = subst (λ core. length core.parts ≡ core.limits.partitions) c.self.view_is c.self.invariant.each in
    let some = subst (λ core. 0 < core.limits.partitions) c.self.view_is c.partitioner_of.ensures.some in
    let parts_are = c.as_slice-parts.ensures.value ∙ ap (λ core. core.parts) c.self.view_is in
    let partitions_are = c.partitioner_of.ensures.value ∙ ap (λ core. core.limits.partitions) c.self.view_is in
    let many = c.next_superstep-supersteps.ensures.value in
    let policy = ap (λ core. core.limits.missing) (sym c.self.view_is) ∙ sym c.missing-missing.ensures in
    IfOk-weaker c.values_warm.result _ _
    (λ values are kept right.
    let keeps = kept_for kept core in
    let have = have_all_ended job kept core right ended places here each some in
    let all_ended = subst (λ (n : ℕ). HaveEnded job keeps rows n c.next_superstep-supersteps.result c.as_slice-parts.result.now) (sym partitions_are)
    (subst (λ (s : ℕ). HaveEnded job keeps rows n s c.as_slice-parts.result.now) (sym many)
    (subst (HaveEnded job keeps rows n (core.state.current + 1)) (sym parts_are) have)) in
    let step_input = c.end_warm-ended.ensures
    ∙ (λ i. cond (list_all is_warm (parts_are i)) (option_map ended_by (c.self.view_is i).kept) None) in
    let end = subst₂ (KeepsEnd job keeps) (sym partitions_are) (sym step_input) (end_borrowed job kept core right ended places here each) in
    are job keeps rows policy all_ended end ∙ ap (λ (k : ℕ). values_of job rows (configuration job rows k)) many)
    c.values_warm.ensures
