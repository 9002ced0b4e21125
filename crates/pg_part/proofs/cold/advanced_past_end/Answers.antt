use Rattle.std.proofs.Common.{◌≡◌, ℕ, ◌+◌, ap, sym, IfSome, ◌∙◌, subst, subst₂, arith, false}
use Rattle.pg_part_compute.specs.VertexCountsDeltas.{IsVertexCountsDelta}
use Rattle.pg_part_compute.proofs.VertexCountsDeltas.{if_some}
use Rattle.pg_stats.specs.VertexCounts.{states_among}
use Rattle.pg_stats.specs.Stats.{vertex_counts_of}
use Rattle.pg_part.specs.Cold.{diverged_past_end, advanced_past_end}
use Rattle.pg_part.specs.PartRun.{PartRunState}
use Rattle.pg_part.proofs.RunStepping.{next_within}
use Rattle.pg_part.proofs.cold.advanced_past_end.Goals as goal

pub invariant_of-result : goal.invariant_of-result
invariant_of-result g c =
    let place = c.part_run.inside.place in
    let next = c.new.ensures ∙ ap (λ k. k + 1) c.number.ensures in
    let fact = next_within place c.part_run.inside.trace c.args.changes c.part_run.invariant.0 c.in_ok-trace.ensures next in (
      fact,
      if_some c.args.vertex_counts_delta (λ t vertex_counts_delta. λ s later.
          let same : place ≡ s = omega (arith, later, next) in
          subst₂ (λ (k : ℕ) trace. (t.removed ≡ vertex_counts_of (states_among k c.args.dirty_ids.items trace)) × (t.added ≡ vertex_counts_of (states_among (k + 1) c.args.dirty_ids.items trace)))
          same (sym c.in_ok-trace.ensures) (vertex_counts_delta.removed, vertex_counts_delta.added))
          (subst (λ h. IfSome c.args.vertex_counts_delta (IsVertexCountsDelta h.place h.trace c.args.dirty_ids.items c.args.changes)) (sym c.part_run.view_is) c.requires.vertex_counts_delta),
    )

pub returns : goal.returns
returns g c =
    let after : PartRunState g.row.V.Denot g.row.M.Denot = record {
      partition = c.part_run.inside.partition;
      partitions = c.part_run.inside.partitions;
      missing = c.part_run.inside.missing;
      place = c.new.result;
      trace = c.in_ok-trace.trace;
      kept = c.part_run.inside.kept;
      live = c.in_ok-live.live.items;
      quiescent = c.part_run.inside.diverged.quiescent.items;
      changed = c.args.dirty_ids.items;
      was_warm = false;
    } in
    subst (λ h. after ≡ advanced_past_end h c.args.dirty_ids.items c.args.changes) c.part_run.view_is
    (λ i. record {
      partition = c.part_run.inside.partition;
      partitions = c.part_run.inside.partitions;
      missing = c.part_run.inside.missing;
      place = (c.new.ensures ∙ ap (λ k. k + 1) c.number.ensures) i;
      trace = c.in_ok-trace.ensures i;
      kept = c.part_run.inside.kept;
      live = (c.in_ok-live.ensures ∙ ap (diverged_past_end c.part_run.inside.kept c.part_run.inside.diverged.live.items) c.as_slice.ensures.value) i;
      quiescent = c.part_run.inside.diverged.quiescent.items;
      changed = c.args.dirty_ids.items;
      was_warm = false;
    })
