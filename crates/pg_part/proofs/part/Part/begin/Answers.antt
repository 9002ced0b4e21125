use Rattle.std.proofs.Common.{ap, sym, ◌∙◌, ◌∷◌, []}
use Rattle.std.proofs.lemmas.Result.{IfOk-from_err}
use Rattle.pg_part_routing.specs.Starting.{first_states}
use Rattle.pg_part.proofs.Beginning.{begun_stats, first_are}
use Rattle.pg_stats.specs.Stats.{vertex_counts_of}
use Rattle.pg_part.proofs.part.Part.begin.Goals as goal

pub returns-clause-holds : goal.returns-clause-holds
returns-clause-holds g c job program missing same =
    let graph = c.args.rows.graph in
    let n = c.args.rows.partitions in
    let p = c.args.rows.partition in
    let registry = c.args.registry.now in
    let vertex_counts = c.in_ok-vertex_counts.vertex_counts in
    let rise = c.in_ok-states.ensures.rising in
    let states_are = c.in_ok-states.ensures.states ∙ ap (λ q. first_states q graph n p) (sym program) in
    let counted = c.in_ok-vertex_counts.ensures ∙ ap vertex_counts_of (c.as_slice.ensures.value ∙ (states_are ∙ first_are job graph n p rise)) in
    let history = c.in_ok-stats_history.ensures in
    record {
      part_run = c.in_ok-part_run.ensures.holds job rise missing states_are;
      stats = record {
        graph_is = history.graph_is ∙ c.graph-graph.ensures;
        stats_are = history.stats_are ∙ (ap (λ x. x ∷ []) c.in_ok-first.ensures ∙ begun_stats job n p registry same graph vertex_counts counted);
        warm = tt;
      };
    }

pub returns-in_err-states : goal.returns-in_err-states
returns-in_err-states g c =
    let none = c.from_residual.ensures.0 in
    let at = c.from_residual.result in
    record { begins = IfOk-from_err at _ none; cold = IfOk-from_err at _ none; unrecorded = IfOk-from_err at _ none; holds = IfOk-from_err at _ none }

pub returns-in_err-vertex_counts : goal.returns-in_err-vertex_counts
returns-in_err-vertex_counts g c =
    let none = c.from_residual-in_err-vertex_counts.ensures.0 in
    let at = c.from_residual-in_err-vertex_counts.result in
    record { begins = IfOk-from_err at _ none; cold = IfOk-from_err at _ none; unrecorded = IfOk-from_err at _ none; holds = IfOk-from_err at _ none }

pub returns-in_err-first : goal.returns-in_err-first
returns-in_err-first g c =
    let none = c.from_residual-in_err-first.ensures.0 in
    let at = c.from_residual-in_err-first.result in
    record { begins = IfOk-from_err at _ none; cold = IfOk-from_err at _ none; unrecorded = IfOk-from_err at _ none; holds = IfOk-from_err at _ none }

pub returns-in_err-part_run : goal.returns-in_err-part_run
returns-in_err-part_run g c =
    let none = c.from_residual-in_err-part_run.ensures.0 in
    let at = c.from_residual-in_err-part_run.result in
    record { begins = IfOk-from_err at _ none; cold = IfOk-from_err at _ none; unrecorded = IfOk-from_err at _ none; holds = IfOk-from_err at _ none }

pub returns-in_err-stats_history : goal.returns-in_err-stats_history
returns-in_err-stats_history g c =
    let none = c.from_residual-in_err-stats_history.ensures.0 in
    let at = c.from_residual-in_err-stats_history.result in
    record { begins = IfOk-from_err at _ none; cold = IfOk-from_err at _ none; unrecorded = IfOk-from_err at _ none; holds = IfOk-from_err at _ none }
