use Rattle.std.proofs.Common.{get_or, ap, sym, ◌∙◌, subst₂}
use Rattle.std.specs.Option.{option_copied}
use Rattle.std.proofs.lemmas.Option.{get_or_from_slice_get, same_Some}
use Rattle.std.proofs.lemmas.Result.{IfOk-weaker}
use Rattle.pg_part.specs.PartRun.{diverged}
use Rattle.pg_part.specs.StatsHistories.{begun_with}
use Rattle.pg_stats.specs.VertexCounts.{HasCountDelta, states_among}
use Rattle.pg_stats.specs.Stats.{vertex_counts_of}
use Rattle.pg_stats.specs.declared.stats.VertexCounts.{VertexCounts}
use Rattle.pg_trace.specs.Trace.{Trace}
use Rattle.pg_part.proofs.stats_history.first_stats_warm.Goals as goal

pub returns : goal.returns
returns g c =
    let part_run = c.args.part_run.now in
    let among : Trace g.row.V.Denot g.row.M.Denot → VertexCounts = λ trace. vertex_counts_of (states_among 0 (diverged part_run) trace) in
    let start = c.new-start.ensures in
    let ids = c.as_slice.ensures.value ∙ c.in_ok-ids.ensures in
    let trace = c.trace-trace.ensures in
    let read = get_or c.args.old_stats.now 0 c.index-old_stats-0.result in
    IfOk-weaker c.first_stats.result _ _ (λ stats begun old before kept first.
    let counted = ap (λ s. s.vertex_counts) begun in
    let same = same_Some _ _ (sym (ap option_copied c.unwrap-kept.ensures) ∙ (c.kept.ensures ∙ kept)) in
    let had = ap (λ s. s.vertex_counts) (get_or_from_slice_get c.args.old_stats.now 0 before c.index-old_stats-0.result first) in
    record {
      vertex_counts = subst₂ (λ b a. HasCountDelta b (among old) (among part_run.trace) a) had (sym counted)
          (subst₂ (λ removed added. HasCountDelta read.vertex_counts removed added c.in_ok-vertex_counts.vertex_counts)
          (λ i. vertex_counts_of (states_among (start i) (ids i) (same i))) (λ i. vertex_counts_of (states_among (start i) (ids i) (trace i)))
          c.in_ok-vertex_counts.ensures);
      rest = begun ∙ ap (begun_with c.args.registry.now) (sym counted);
    }) c.first_stats.ensures
