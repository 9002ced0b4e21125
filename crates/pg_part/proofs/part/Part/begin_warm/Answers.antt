use Rattle.std.proofs.Common.{ap, sym, ◌∙◌, ◌∷◌, [], subst, arith, ◌≤◌}
use Rattle.std.specs.List.{slice_get}
use Rattle.std.proofs.lemmas.Result.{IfOk-from_err}
use Rattle.pg_part.specs.PartRun.{IsWhole, diverged}
use Rattle.pg_model.specs.Run.{run_length}
use Rattle.pg_part.proofs.Beginning.{begun_stats, counts_with_delta_is}
use Rattle.pg_part.proofs.Stepping.{stats_of}
use Rattle.pg_stats.specs.MessageCounts.{AreMemberChanges}
use Rattle.pg_stats.specs.Stats.{stats_at}
use Rattle.pg_part.proofs.part.Part.begin_warm.Goals as goal

pub returns-clause-holds : goal.returns-clause-holds
returns-clause-holds g c job kept program missing same retained touched member_changes =
    let graph = c.args.rows.graph in
    let n = c.args.rows.partitions in
    let p = c.args.rows.partition in
    let registry = c.args.registry.now in
    let part_run = c.in_ok-part_run.part_run in
    let old = c.old.inside in
    let begins = c.in_ok-part_run.ensures in
    let whole = subst (λ l. IsWhole job kept n p l.trace) (sym c.old.view_is) retained.whole in
    let holds = begins.holds job kept program missing whole touched in
    let stats_are = ap (λ l. l.stats) c.old.view_is ∙ retained.stats_are in
    let earlier = stats_at job kept n p 0 in
    let at = stats_of job kept n p (run_length job kept) 0 old.stats.items stats_are (let least : 0 ≤ run_length job kept = omega arith in least) in
    let first = c.in_ok-first.first in
    let begun = c.in_ok-first.ensures old.trace earlier begins.kept (ap (λ l. slice_get l 0) c.as_slice.ensures.value ∙ at) in
    let counted =
    counts_with_delta_is job kept graph n p old.trace part_run.trace whole.run holds.run c.args.touched.now (diverged part_run) begins.rise begins.diverged touched
    old.stats.items stats_are earlier at first.vertex_counts begun.vertex_counts in
    let history = c.in_ok-stats_history.ensures in
    record {
      part_run = holds;
      stats = record {
        graph_is = history.graph_is ∙ c.graph-graph.ensures;
        stats_are = history.stats_are ∙ (ap (λ x. x ∷ []) begun.rest ∙ begun_stats job n p registry same graph first.vertex_counts counted);
        warm = (history.old_stats_are ∙ stats_are, subst (λ ids. AreMemberChanges ids kept graph) (sym history.member_changes_are) member_changes);
      };
    }

pub returns-in_err-part_run : goal.returns-in_err-part_run
returns-in_err-part_run g c =
    let none = c.from_residual.ensures.0 in
    let at = c.from_residual.result in
    record { begins = IfOk-from_err at _ none; holds = IfOk-from_err at _ none }

pub returns-in_err-first : goal.returns-in_err-first
returns-in_err-first g c =
    let none = c.from_residual-in_err-first.ensures.0 in
    let at = c.from_residual-in_err-first.result in
    record { begins = IfOk-from_err at _ none; holds = IfOk-from_err at _ none }

pub returns-in_err-stats_history : goal.returns-in_err-stats_history
returns-in_err-stats_history g c =
    let none = c.from_residual-in_err-stats_history.ensures.0 in
    let at = c.from_residual-in_err-stats_history.result in
    record { begins = IfOk-from_err at _ none; holds = IfOk-from_err at _ none }
