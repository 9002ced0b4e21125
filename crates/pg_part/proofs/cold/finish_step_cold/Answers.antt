use Rattle.std.proofs.Common.{◌<◌, sym, ◌∙◌, subst}
use Rattle.std.specs.List.{flat_map, slice_get}
use Rattle.std.proofs.lemmas.Result.{IfOk-from_err}
use Rattle.pg_part_routing.specs.Sending.{IsFresh, items_to, sends_of}
use Rattle.pg_part.proofs.cold.finish_step_cold.Goals as goal

pub returns-clause-some : goal.returns-clause-some
returns-clause-some g c = subst (λ n. 0 < n) c.partitions.ensures c.in_ok-sent.ensures.some

pub returns-clause-finish_step : goal.returns-clause-finish_step
returns-clause-finish_step g c =
    let all = c.partitions.ensures in
    record {
      advanced = c.in_ok-part_run.ensures;
      to_each = c.in_ok-sent.ensures.to_each ∙ all;
      sends = λ q below.
          subst (λ n. IsFresh (g.C.MessageCombiner.combining c.args.combiner.now) (items_to n q (flat_map sends_of c.args.step_delta.changes))
          (slice_get c.in_ok-sent.sent q)) all (c.in_ok-sent.ensures.sends q (subst (λ n. q < n) (sym all) below));
    }

pub returns-in_err-sent : goal.returns-in_err-sent
returns-in_err-sent g c =
    let none = c.from_residual.ensures.0 in
    let at = c.from_residual.result in
    record {
      some = subst (λ n. 0 < n) c.partitions.ensures c.in_err-sent.ensures.some;
      finish_step = IfOk-from_err at _ none;
      counted = IfOk-from_err at _ none;
    }

pub returns-in_err-part_run : goal.returns-in_err-part_run
returns-in_err-part_run g c =
    let none = c.from_residual-in_err-part_run.ensures.0 in
    let at = c.from_residual-in_err-part_run.result in
    record {
      some = subst (λ n. 0 < n) c.partitions.ensures c.in_ok-sent.ensures.some;
      finish_step = IfOk-from_err at _ none;
      counted = IfOk-from_err at _ none;
    }
