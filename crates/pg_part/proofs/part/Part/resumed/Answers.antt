use Rattle.std.proofs.Common.{◌≡◌, ℕ, ◌+◌, [], ◌∷◌, ◌++◌, length, ap, sym, ◌∙◌, subst}
use Rattle.std.proofs.lemmas.List.{length_push}
use Rattle.std.proofs.lemmas.Result.{IfOk-from_err}
use Rattle.pg_part.specs.PartRun.{with_resumed}
use Rattle.pg_part.proofs.Resuming.{recorded_at, resumed_one}
use Rattle.pg_part.proofs.part.Part.resumed.Goals as goal

pub returns-clause-part_run : goal.returns-clause-part_run
returns-clause-part_run g c = subst (λ s. c.in_ok-part_run.part_run ≡ with_resumed c.args.records.items s.part_run) c.self.view_is c.in_ok-part_run.ensures

pub returns-clause-holds : goal.returns-clause-holds
returns-clause-holds g c job rows n p s same held within are =
    let before = c.args.self in
    let as_before = c.self.view_is in
    let part_run = c.in_ok-part_run.part_run in
    let registry = c.args.registry.now in
    let history = c.in_ok-stats_history.ensures in
    let next = history.next in
    resumed_one job rows n p s registry same before _ held within c.args.records.items are
    (subst (λ s. part_run ≡ with_resumed c.args.records.items s.part_run) as_before c.in_ok-part_run.ensures)
    (history.graph_is ∙ ap (λ s. s.graph) as_before) (history.member_changes_are ∙ ap (λ s. s.member_changes) as_before)
    (history.old_stats_are ∙ ap (λ s. s.old_stats) as_before) next (history.stats_are ∙ ap (λ s. s.stats ++ next ∷ []) as_before)
    (recorded_at registry _ before.graph _ before.stats part_run _ s next (ap (λ s. s.graph) as_before) (ap (λ s. s.stats) as_before)
    (c.place-superstep.ensures ∙ ap (λ s. s.part_run.place) as_before ∙ held.part_run.place_is) history.is_next)

pub invariant_of-result : goal.invariant_of-result
invariant_of-result g c =
    let history = c.in_ok-stats_history.ensures in
    ap length history.stats_are
    ∙ (length_push c.self.inside.stats_history.stats.items history.next
    ∙ ap (λ (k : ℕ). k + 1) (c.self.invariant ∙ sym (ap (λ h. h.place) c.in_ok-part_run.ensures)))

pub returns-in_err-part_run : goal.returns-in_err-part_run
returns-in_err-part_run g c =
    let none = c.from_residual.ensures.0 in
    let at = c.from_residual.result in
    record { part_run = IfOk-from_err at _ none; holds = IfOk-from_err at _ none }

pub returns-in_err-stats_history : goal.returns-in_err-stats_history
returns-in_err-stats_history g c =
    let none = c.from_residual-in_err-stats_history.ensures.0 in
    let at = c.from_residual-in_err-stats_history.result in
    record { part_run = IfOk-from_err at _ none; holds = IfOk-from_err at _ none }
