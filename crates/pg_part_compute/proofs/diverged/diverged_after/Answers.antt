use Rattle.std.proofs.Common.{◌++◌, ap, ap₂, ◌∙◌}
use Rattle.std.proofs.lemmas.Result.{IfOk-from_err}
use Rattle.pg_model.specs.Superstep.{has_id}
use Rattle.pg_part_compute.specs.Diverged.{without}
use Rattle.pg_part_compute.proofs.diverged.diverged_after.Goals as goal

pub returns-in_err-live : goal.returns-in_err-live
returns-in_err-live g c =
    let none = c.from_residual.ensures.0 in
    let at = c.from_residual.result in
    record { live = IfOk-from_err at _ none; quiescent = IfOk-from_err at _ none; eq_is_sound = IfOk-from_err at _ none }

pub returns-in_err-still : goal.returns-in_err-still
returns-in_err-still g c =
    let none = c.from_residual-in_err-still.ensures.0 in
    let at = c.from_residual-in_err-still.result in
    record { live = IfOk-from_err at _ none; quiescent = IfOk-from_err at _ none; eq_is_sound = IfOk-from_err at _ none }

pub returns-in_err-quiescent : goal.returns-in_err-quiescent
returns-in_err-quiescent g c =
    let none = c.from_residual-in_err-quiescent.ensures.0 in
    let at = c.from_residual-in_err-quiescent.result in
    record { live = IfOk-from_err at _ none; quiescent = IfOk-from_err at _ none; eq_is_sound = IfOk-from_err at _ none }

pub returns : goal.returns
returns g c =
    let among = c.in_ok-live.ensures in
    record {
      live = among.live;
      quiescent = λ id. c.in_ok-quiescent.ensures id
          ∙ ap (λ l. has_id l id) (ap₂ ◌++◌ (c.in_ok-still.ensures ∙ ap (λ l. without l c.args.dirty_ids.now) c.as_slice.ensures.value)
          (c.as_slice-2.ensures.value ∙ among.quiescent));
      eq_is_sound = among.eq_is_sound;
    }
