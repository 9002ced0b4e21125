use Rattle.std.proofs.Common.{◌≡◌, ◌+◌, ◌++◌, Some, ap, ◌∙◌, subst, subst₂, true}
use Rattle.std.proofs.lemmas.Result.{IfOk-from_err}
use Rattle.pg_model.specs.Superstep.{has_id}
use Rattle.pg_part_compute.specs.Diverged.{AreEqSound, quiescent_among, live_among, without}
use Rattle.pg_part.specs.PartRun.{PartRunState}
use Rattle.pg_part.specs.Warm.{AreCompared, AreTheQuiescent, advanced}
use Rattle.pg_part.proofs.RunStepping.{next_within}
use Rattle.pg_trace.specs.Trace.{reaching, with_replaced}
use Rattle.pg_part.proofs.warm.advanced.Goals as goal

pub invariant_of-result : goal.invariant_of-result
invariant_of-result g c =
    let place = c.part_run.inside.place in
    let next = c.new-place.ensures ∙ ap (λ k. k + 1) c.number.ensures in
    let fact = next_within place c.part_run.inside.trace c.args.changes c.part_run.invariant.0 c.in_ok-trace.ensures next in
    (fact, tt)

pub returns-clause-advanced : goal.returns-clause-advanced
returns-clause-advanced g c =
    let value_eq = g.V.PartialEq.eq in
    let old = c.args.old in
    let dirty_ids = c.args.dirty_ids.items in
    let next = c.new-place.ensures ∙ ap (λ k. k + 1) c.number.ensures in
    let ids = c.as_slice.ensures.value in
    let quiescent = c.in_ok-diverged.diverged.quiescent.items in
    let after : PartRunState g.row.V.Denot g.row.M.Denot = record {
      partition = c.part_run.inside.partition;
      partitions = c.part_run.inside.partitions;
      missing = c.part_run.inside.missing;
      place = c.new-place.result;
      trace = c.in_ok-trace.trace;
      kept = Some old;
      live = c.in_ok-diverged.diverged.live.items;
      quiescent = quiescent;
      changed = dirty_ids;
      was_warm = true;
    } in
    subst (λ h. after ≡ advanced value_eq h old dirty_ids c.args.changes quiescent) c.part_run.view_is
    (λ i. record {
      partition = c.part_run.inside.partition;
      partitions = c.part_run.inside.partitions;
      missing = c.part_run.inside.missing;
      place = next i;
      trace = c.in_ok-trace.ensures i;
      kept = Some old;
      live = (c.in_ok-diverged.ensures.live ∙ (λ i. live_among value_eq old (c.in_ok-trace.ensures i) (next i) (ids i))) i;
      quiescent = quiescent;
      changed = dirty_ids;
      was_warm = true;
    })

pub returns-clause-quiescent : goal.returns-clause-quiescent
returns-clause-quiescent g c =
    let value_eq = g.V.PartialEq.eq in
    let old = c.args.old in
    let next = c.new-place.ensures ∙ ap (λ k. k + 1) c.number.ensures in
    let ids = c.as_slice.ensures.value in
    let rested = c.part_run.inside.diverged.quiescent.items in
    let quiescent = c.in_ok-diverged.diverged.quiescent.items in
    subst (λ (h : PartRunState g.row.V.Denot g.row.M.Denot). AreTheQuiescent value_eq h old c.args.dirty_ids.items c.args.changes quiescent) c.part_run.view_is
    (λ id. c.in_ok-diverged.ensures.quiescent id
    ∙ (λ i. has_id (without rested (ids i) ++ quiescent_among value_eq old (c.in_ok-trace.ensures i) (next i) (ids i)) id))

pub returns-clause-eq_is_sound : goal.returns-clause-eq_is_sound
returns-clause-eq_is_sound g c =
    let value_eq = g.V.PartialEq.eq in
    let old = c.args.old in
    let place = c.part_run.inside.place in
    let trace = with_replaced place c.args.changes (reaching place c.part_run.inside.trace) in
    let next = c.new-place.ensures ∙ ap (λ k. k + 1) c.number.ensures in
    subst (λ (h : PartRunState g.row.V.Denot g.row.M.Denot). AreCompared value_eq h old c.args.dirty_ids.items c.args.changes) c.part_run.view_is
    (subst (AreEqSound value_eq old trace (place + 1)) c.as_slice.ensures.value
    (subst₂ (λ t k. AreEqSound value_eq old t k c.as_slice.result.now) c.in_ok-trace.ensures next c.in_ok-diverged.ensures.eq_is_sound))

pub returns-in_err-trace : goal.returns-in_err-trace
returns-in_err-trace g c =
    let none = c.from_residual.ensures.0 in
    let at = c.from_residual.result in
    record { advanced = IfOk-from_err at _ none; quiescent = IfOk-from_err at _ none; eq_is_sound = IfOk-from_err at _ none }

pub returns-in_err-diverged : goal.returns-in_err-diverged
returns-in_err-diverged g c =
    let none = c.from_residual-in_err-diverged.ensures.0 in
    let at = c.from_residual-in_err-diverged.result in
    record { advanced = IfOk-from_err at _ none; quiescent = IfOk-from_err at _ none; eq_is_sound = IfOk-from_err at _ none }
