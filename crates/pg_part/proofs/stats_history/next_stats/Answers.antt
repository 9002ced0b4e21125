use Rattle.std.proofs.Common.{◌≡◌, ℕ, ◌<◌, ◌+◌, length, get_or, None, ap, sym, ◌∙◌, subst, true≢false}
use Rattle.std.specs.Prelude.{IfSome, IsSome}
use Rattle.std.specs.Option.{option_copied}
use Rattle.std.proofs.lemmas.Option.{none-some, same_Some, slice_get_within}
use Rattle.std.proofs.lemmas.Result.{IfOk-weaker}
use Rattle.pg_part.specs.StatsHistories.{IsStatsHistory}
use Rattle.pg_part.proofs.Stepping.{history_warm_at, stats_there}
use Rattle.pg_part.proofs.stats_history.next_stats.Goals.{then-was_warm+in-Some+in-Some-found-2+in-None-1, then-was_warm+in-Some+in-None-1}
use Rattle.pg_part.proofs.stats_history.next_stats.Goals.{then-was_warm+in-None-1, else-was_warm}
use Rattle.pg_part.proofs.stats_history.next_stats.Goals as goal

pub returns-in-Some-Some-Some : goal.returns-in-Some-Some-Some
returns-in-Some-Some-Some g c =
    let place = c.number-place.ensures in
    let found = c.in-Some-Some-Some in
    IfOk-weaker c.stats_warm.result _ _ (λ after history. record {
      cold = λ off before at. absurd (true≢false (sym c.if-was_warm.true ∙ (c.was_warm.ensures ∙ off)));
      warm = λ on old logs before old_before old_after kept logs_are at old_at next.
          history_warm_at c.args.registry.now c.args.graph.now c.args.member_changes.now c.args.part_run.now c.args.superstep c.args.bundles.now after
          (same_Some _ _ (sym (ap option_copied found.is-0) ∙ (c.kept.ensures ∙ kept)))
          (same_Some _ _ (sym (ap option_copied found.is-1) ∙ logs_are))
          (stats_there c.args.stats.now place c.index-stats-place.is at)
          (stats_there c.args.old_stats.now place c.index-old_stats-place.is old_at)
          (stats_there c.args.old_stats.now (ap (λ (k : ℕ). k + 1) place)
          (subst (λ r. IfSome r (λ x. x.now ≡ get_or c.args.old_stats.now (c.number-place.result + 1) x.now)) found.is-2 c.get.ensures.lookup.1) next)
          history;
    }) c.stats_warm.ensures

pub returns : goal.returns
returns g c =
    IfOk-weaker c.stats_after.result _ _ (λ after history. record {
      cold = λ off before at. subst (λ b. IsStatsHistory c.args.registry.now c.args.graph.now c.args.part_run.now c.args.superstep c.args.bundles.now b after)
          (stats_there c.args.stats.now c.number-place.ensures c.index-stats-place-2.is at) history;
      warm = λ on old logs before old_before old_after kept logs_are at old_at next. absurd (elim c.if-was_warm.branch [
        | then-was_warm+in-Some+in-Some-found-2+in-None-1 w ↦
            let none : w.get.result ≡ None = assumption in
            let there = slice_get_within c.args.old_stats.now (c.args.superstep + 1) old_after next in
            true≢false (sym (subst (λ r. IsSome r) none (w.get.ensures.lookup.2
            (subst (λ (k : ℕ). k + 1 < length c.args.old_stats.now) (sym c.number-place.ensures) there))))
        | then-was_warm+in-Some+in-None-1 w ↦
            let none : c.args.old_logs ≡ None = assumption in
            none-some _ (sym (ap option_copied none) ∙ logs_are)
        | then-was_warm+in-None-1 w ↦
            let none : w.kept.result ≡ None = assumption in
            none-some _ (sym (ap option_copied none) ∙ (w.kept.ensures ∙ kept))
        | else-was_warm w ↦ true≢false (sym on ∙ (sym c.was_warm.ensures ∙ w.if-was_warm.false))
      ]);
    }) c.stats_after.ensures
