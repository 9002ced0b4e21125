use Rattle.std.proofs.Common.{◌≡◌, ℕ, ◌+◌, ◌^◌, ◌<◌, ◌≤◌, [], ◌∷◌, ◌++◌, length, ap, sym, ◌∙◌, subst, refl, arith}
use Rattle.std.proofs.lemmas.List.{length_push}
use Rattle.std.proofs.lemmas.Result.{IfOk-from_err}
use Rattle.std.specs.Prelude.{Err, IfErr, Ok, Result}
use Rattle.pg_part.specs.PartRun.{HasStepped, Holds, IsAdvanced}
use Rattle.pg_part.proofs.Stepping.{has_next, next_is, next_stats_at, ok_of}
use Rattle.pg_part.proofs.part.Part.step.Goals as goal

below_next : {place k n : ℕ} → place ≡ k → n ≡ k + 1 → place < n
below_next at long = omega arith

unchanged : {T E X : Type 0} (r : Result T E) (x : X) → IfErr r (λ _. x ≡ x)
unchanged (Ok found) x = tt
unchanged (Err lost) x = refl

pub returns-clause-stepped : goal.returns-clause-stepped
returns-clause-stepped g c job kept rows n p r program combining same held step_input warm =
    let before = c.args.self in
    let inside = c.self.inside in
    let as_before = c.self.view_is in
    let part_run = c.in_ok-part_run.part_run in
    let sent = c.in_ok-part_run.sent in
    let history = ok_of _ _ c.in_ok-stats_history.stats_history c.in_ok-stats_history.ensures c.after-stats_history.ensures in
    let next = history.next in
    let registry = c.args.registry.now in
    let holds = subst (λ s. Holds job kept rows n p r s.part_run) (sym as_before) held.part_run in
    let stepped = c.in_ok-part_run.ensures.stepped job kept rows n p r program combining holds step_input warm in
    let some = subst (λ (k : ℕ). 0 < k) stepped.to_each c.bundles-bundles.ensures.some in
    let is_next = next_stats_at registry _ before.graph _ before.member_changes _ before.stats _ before.old_stats _ _ part_run _ r _ sent next
    (ap (λ s. s.graph) as_before) (ap (λ s. s.member_changes) as_before) (ap (λ s. s.stats) as_before)
    (ap (λ s. s.old_stats) as_before) refl (c.place-superstep.ensures ∙ holds.place_is) c.bundles-bundles.ensures.value history.is_next in
    let after = next_is job rows n p r some registry same before part_run sent stepped.to_each c.args.logs.now next
    kept held.stats stepped.holds stepped.changed_are stepped.sends _ _ warm is_next in
    record {
      part_run =
          subst (λ (m : ℕ). HasStepped job g.V.PartialEq.eq g.M.PartialEq.eq kept rows n p r part_run sent m c.step.new.meter) c.copy-counted.ensures.value stepped;
      stats =
          has_next job kept rows n p r before _ held.stats (history.graph_is ∙ ap (λ s. s.graph) as_before)
          (history.member_changes_are ∙ ap (λ s. s.member_changes) as_before) (history.old_stats_are ∙ ap (λ s. s.old_stats) as_before)
          next (history.stats_are ∙ ap (λ s. s.stats ++ next ∷ []) as_before) after;
    }

pub step-requires-clause-counts : goal.step-requires-clause-counts
step-requires-clause-counts g c κs lives = subst (λ s. s.part_run.place + 1 < 2 ^ 32) (sym c.self.view_is) c.requires.counts

pub after-stats_history-requires-clause-counts : goal.after-stats_history-requires-clause-counts
after-stats_history-requires-clause-counts g c κs lives =
    subst (λ (k : ℕ). k + 1 < 2 ^ 32) (sym (c.place-superstep.ensures ∙ ap (λ s. s.part_run.place) c.self.view_is)) c.requires.counts

pub after-stats_history-requires-clause-few : goal.after-stats_history-requires-clause-few
after-stats_history-requires-clause-few g c κs lives =
    subst (λ (k : ℕ). k ≤ 64) (sym (ap length c.bundles-bundles.ensures.value)) c.bundles-bundles.ensures.most

pub after-stats_history-requires-clause-there : goal.after-stats_history-requires-clause-there
after-stats_history-requires-clause-there g c κs lives = below_next c.place-superstep.ensures c.self.invariant

pub invariant_of-result : goal.invariant_of-result
invariant_of-result g c =
    let history = ok_of _ _ c.in_ok-stats_history.stats_history c.in_ok-stats_history.ensures c.after-stats_history.ensures in
    ap length history.stats_are
    ∙ (length_push c.self.inside.stats_history.stats.items history.next
    ∙ ap (λ (k : ℕ). k + 1) (c.self.invariant ∙ sym c.in_ok-part_run.ensures.advanced.place_is))

pub returns-clause-advanced : goal.returns-clause-advanced
returns-clause-advanced g c = subst (λ s. IsAdvanced s.part_run c.in_ok-part_run.part_run) c.self.view_is c.in_ok-part_run.ensures.advanced

pub returns-in_err-part_run : goal.returns-in_err-part_run
returns-in_err-part_run g c =
    let none = c.from_residual.ensures.0 in
    let at = c.from_residual.result in
    record { advanced = IfOk-from_err at _ none; uncounted = unchanged at c.args.meter.now; stepped = IfOk-from_err at _ none }

pub returns-in_err-stats_history : goal.returns-in_err-stats_history
returns-in_err-stats_history g c =
    let none = c.from_residual-in_err-stats_history.ensures.0 in
    let at = c.from_residual-in_err-stats_history.result in
    record { advanced = IfOk-from_err at _ none; uncounted = unchanged at c.args.meter.now; stepped = IfOk-from_err at _ none }
