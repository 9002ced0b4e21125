use Rattle.pg_scratch.proofs.Merging.{takes_more, fewer_left}
use Rattle.std.proofs.Common.{sym, ◌∙◌}
use Rattle.std.proofs.lemmas.Result.{IfOk-from_err}
use Rattle.pg_scratch.proofs.vertex_table.push_below.Goals as goal

pub loop-alloc-preserved : goal.loop-alloc-preserved
loop-alloc-preserved g c =
    takes_more (g.P.Computation.program c.args.program.now) c.args.id _ c.loop-alloc.waiting.items _ _
    c.loop-alloc.merged.items _ c.loop-alloc.invariant (sym c.is_first_below.ensures ∙ c.loop-alloc-test.true)
    c.in_ok-push_first.ensures

pub loop-alloc-smaller : goal.loop-alloc-smaller
loop-alloc-smaller g c =
    fewer_left (g.P.Computation.program c.args.program.now) c.args.id c.loop-alloc.waiting.items _
    c.loop-alloc.merged.items _ (sym c.is_first_below.ensures ∙ c.loop-alloc-test.true) c.in_ok-push_first.ensures

pub returns-in_err-push_first : goal.returns-in_err-push_first
returns-in_err-push_first g c =
    let none = c.from_residual.ensures.0 in
    record { takes = IfOk-from_err c.from_residual.result _ none; rest = IfOk-from_err c.from_residual.result _ none }
