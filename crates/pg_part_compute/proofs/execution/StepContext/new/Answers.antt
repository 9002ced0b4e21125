use Rattle.std.proofs.Common.{length, ap, sym, ◌∙◌, subst, refl}
use Rattle.std.proofs.lemmas.Result.{IfOk-from_err}
use Rattle.pg_global.proofs.Shown.{shows_declared}
use Rattle.pg_model.specs.Superstep.{view_of}
use Rattle.pg_program.specs.Context.{ShowsDeclared}
use Rattle.pg_part_compute.proofs.execution.StepContext.new.Goals as goal

pub returns-clause-shown : goal.returns-clause-shown
returns-clause-shown g c =
    let declared = (g.P.Computation.program c.args.program.now).declared in
    let visible = c.args.visible.now in
    let place = c.args.superstep in
    subst (ShowsDeclared declared) (sym (c.in_ok-view.ensures ∙ ap (λ d. view_of d place visible) c.declared.ensures))
    (shows_declared declared place (length visible.values) visible c.requires.declared refl)

pub returns-in_err-view : goal.returns-in_err-view
returns-in_err-view g c =
    let none = c.from_residual.ensures.0 in
    let at = c.from_residual.result in
    record { view = IfOk-from_err at _ none; shown = IfOk-from_err at _ none; meter = IfOk-from_err at _ none; fits = IfOk-from_err at _ none }
