use Rattle.std.proofs.Common.{◌++◌, [], ◌∷◌, ap, ◌∙◌, refl}
use Rattle.std.proofs.lemmas.Result.{IfOk-from_err}
use Rattle.pg_part.proofs.stats_history.StatsHistory.begun.Goals as goal

pub returns-in_err-graph : goal.returns-in_err-graph
returns-in_err-graph c =
    let none = c.from_residual.ensures.0 in
    let at = c.from_residual.result in
    record {
      graph_is = IfOk-from_err at _ none;
      member_changes_are = IfOk-from_err at _ none;
      stats_are = IfOk-from_err at _ none;
      old_stats_are = IfOk-from_err at _ none;
    }

pub returns-in_err-member_changes : goal.returns-in_err-member_changes
returns-in_err-member_changes c =
    let none = c.from_residual-in_err-member_changes.ensures.0 in
    let at = c.from_residual-in_err-member_changes.result in
    record {
      graph_is = IfOk-from_err at _ none;
      member_changes_are = IfOk-from_err at _ none;
      stats_are = IfOk-from_err at _ none;
      old_stats_are = IfOk-from_err at _ none;
    }

pub returns-in_err-push : goal.returns-in_err-push
returns-in_err-push c =
    let none = c.from_residual-in_err-push.ensures.0 in
    let at = c.from_residual-in_err-push.result in
    record {
      graph_is = IfOk-from_err at _ none;
      member_changes_are = IfOk-from_err at _ none;
      stats_are = IfOk-from_err at _ none;
      old_stats_are = IfOk-from_err at _ none;
    }

pub returns : goal.returns
returns c = record {
  graph_is = c.in_ok-graph.ensures;
  member_changes_are = c.in_ok-member_changes.ensures.items;
  stats_are = c.in_ok-push.ensures.items ∙ ap (λ l. l ++ c.args.first ∷ []) c.new-stats.ensures.items;
  old_stats_are = refl;
}
