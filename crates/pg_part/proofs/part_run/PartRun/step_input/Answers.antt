use Rattle.std.proofs.Common.{ap, ◌∙◌}
use Rattle.std.proofs.lemmas.Result.{IfOk-from_err}
use Rattle.std.specs.Option.{option_copied, option_map}
use Rattle.pg_model.specs.Superstep.{view_of}
use Rattle.pg_part.proofs.part_run.PartRun.step_input.Goals as goal

pub returns-in_err-step_context : goal.returns-in_err-step_context
returns-in_err-step_context g c =
    let none = c.from_residual.ensures.0 in
    let at = c.from_residual.result in
    record {
      shown = IfOk-from_err at _ none;
      fits = IfOk-from_err at _ none;
      meter = IfOk-from_err at _ none;
      view = IfOk-from_err at _ none;
      old_view = IfOk-from_err at _ none;
      bundles = IfOk-from_err at _ none;
    }

pub returns-in_err-old_view : goal.returns-in_err-old_view
returns-in_err-old_view g c =
    let none = c.from_residual-in_err-old_view.ensures.0 in
    let at = c.from_residual-in_err-old_view.result in
    record {
      shown = IfOk-from_err at _ none;
      fits = IfOk-from_err at _ none;
      meter = IfOk-from_err at _ none;
      view = IfOk-from_err at _ none;
      old_view = IfOk-from_err at _ none;
      bundles = IfOk-from_err at _ none;
    }

pub returns-in_err-bundles : goal.returns-in_err-bundles
returns-in_err-bundles g c =
    let none = c.from_residual-in_err-bundles.ensures.0 in
    let at = c.from_residual-in_err-bundles.result in
    record {
      shown = IfOk-from_err at _ none;
      fits = IfOk-from_err at _ none;
      meter = IfOk-from_err at _ none;
      view = IfOk-from_err at _ none;
      old_view = IfOk-from_err at _ none;
      bundles = IfOk-from_err at _ none;
    }

pub returns : goal.returns
returns g c =
    let declared = (g.P.Computation.program c.args.program.now).declared in
    let step_context = c.in_ok-step_context.ensures in
    record {
      shown = step_context.shown;
      fits = step_context.fits;
      meter = step_context.meter;
      view = step_context.view ∙ ap (λ k. view_of declared k c.args.visible.now) c.place.ensures;
      old_view = c.in_ok-old_view.ensures ∙ ap (λ k. option_map (view_of declared k) (option_copied c.args.old_visible)) c.place-2.ensures;
      bundles = c.in_ok-bundles.ensures;
    }
