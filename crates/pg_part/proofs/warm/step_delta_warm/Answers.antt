use Rattle.std.proofs.Common.{Some, not, sym, ◌∙◌, subst, subst₂}
use Rattle.std.specs.List.Sorted.{IsStrictlySortedBy}
use Rattle.std.specs.List.{AllByRecursion}
use Rattle.std.specs.Ordering.{nat_cmp}
use Rattle.std.proofs.lemmas.Result.{IfOk-weaker}
use Rattle.pg_inbox.specs.Handed.{HoldAll}
use Rattle.pg_inbox.proofs.SameDelivery.{alike}
use Rattle.pg_part_compute.specs.VertexPairs.{AreDirtyIds, IsStepDelta}
use Rattle.pg_part_routing.specs.Routes.{bundles_before}
use Rattle.pg_part.specs.PartRun.{PartRunState}
use Rattle.pg_part.specs.Warm.{IsStepDeltaWarm}
use Rattle.pg_part.proofs.warm.step_delta_warm.Goals as goal

pub returns : goal.returns
returns g c =
    let value_eq = g.P.Value.PartialEq.eq in
    let message_eq = g.P.Message.PartialEq.eq in
    let is_value = g.P.Message.Plain.is_value in
    let laws = g.met.C.MessageCombiner g.world.𝓛 g.world.𝓜 g.world.𝓡 ((λ s x. x), (λ x. x), (λ x. x), λ x. x) in
    let combining = g.C.MessageCombiner.combining c.args.combiner.now in
    let program = g.P.Computation.program c.args.program.now in
    let old = c.args.old.now in
    let logs = c.args.logs.now in
    let old_logs = c.args.old_logs.now in
    let view = c.args.step_context.view in
    let meter = c.args.step_context.meter in
    let bundles = c.args.bundles.now in
    let ids = c.in_ok-ids.ids.items in
    let part_run : PartRunState g.row.P-Value.Denot g.row.P-Message.Denot = record {
      partition = c.part_run.inside.partition;
      partitions = c.part_run.inside.partitions;
      missing = c.part_run.inside.missing;
      place = c.part_run.inside.place;
      trace = c.part_run.inside.trace;
      kept = c.part_run.inside.kept;
      live = c.part_run.inside.diverged.live.items;
      quiescent = c.part_run.inside.diverged.quiescent.items;
      changed = c.part_run.inside.changed.items;
      was_warm = c.part_run.inside.was_warm;
    } in
    let same_view = c.is_same_view-same_view.result in
    IfOk-weaker c.execute_warm.result _ _ (λ step_delta is_step_delta.
    subst (λ h. IsStepDeltaWarm value_eq message_eq combining h old old_logs program logs c.args.old_view.now view bundles meter step_delta) c.part_run.view_is
    (record {
      ids = ids;
      looked = subst
          (λ b. AreDirtyIds combining bundles part_run.partitions part_run.partition part_run.place part_run.trace part_run.live part_run.quiescent logs old_logs b ids)
          c.is_same_view-same_view.ensures (c.in_ok-ids.ensures.dirty combining);
      is = subst (λ b. IsStepDelta value_eq message_eq program part_run.missing combining view part_run.partitions part_run.partition part_run.place part_run.trace bundles
          (Some (old, bundles_before old_logs part_run.partitions part_run.partition part_run.place)) ids (not b) b meter step_delta) c.is_same_view-same_view.ensures
          (subst₂
          (λ x y. IsStepDelta value_eq message_eq program part_run.missing combining view part_run.partitions part_run.partition part_run.place part_run.trace bundles
          (Some (old, x)) y (not same_view) same_view meter step_delta)
          (c.as_slice.ensures.value ∙ c.in_ok-old_bundles.ensures.value) c.as_slice-2.ensures.value is_step_delta);
      alike = λ id. alike id is_value combining (laws.lawful c.args.combiner.now) (bundles_before old_logs part_run.partitions part_run.partition part_run.place) bundles
          (subst (AllByRecursion (HoldAll is_value)) c.in_ok-old_bundles.ensures.value c.in_ok-old_bundles.ensures.hold) c.in_ok-ids.ensures.hold;
    })) c.execute_warm.ensures

pub execute_warm-requires-clause-rise : goal.execute_warm-requires-clause-rise
execute_warm-requires-clause-rise g c κs within =
    subst (IsStrictlySortedBy nat_cmp) (sym c.as_slice-2.ensures.value)
    (c.in_ok-ids.ensures.dirty (g.C.MessageCombiner.combining c.args.combiner.now)).rise
