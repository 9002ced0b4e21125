use Rattle.std.proofs.Common.{◌≡◌, ◌++◌, [], ◌∷◌, take, ap, ap₂, sym, ◌∙◌, subst, subst₂, true}
use Rattle.std.proofs.lemmas.List.{take_all, take_more}
use Rattle.std.proofs.lemmas.List.Elements.{filter_more}
use Rattle.std.proofs.lemmas.Result.{IfOk-from_err}
use Rattle.pg_model.proofs.LawsLists.{all-append}
use Rattle.pg_part_compute.specs.Diverged.{AreEqSound, has_same_state, quiescent_among, live_among}
use Rattle.pg_trace.specs.Trace.{state_at}
use Rattle.pg_part_compute.proofs.diverged.diverged_among.Goals as goal

pub loop-id-init : goal.loop-id-init
loop-id-init g c = record {
  old_stays = c.states-old_states.ensures;
  new_stays = c.states-new_states.ensures;
  live = c.new.ensures.items;
  quiescent = c.new-2.ensures.items;
  eq_is_sound = tt;
}

pub loop-id-preserved : goal.loop-id-preserved
loop-id-preserved g c =
    let value_eq = g.V.PartialEq.eq in
    let old = c.args.old.now in
    let new = c.args.new.now in
    let s = c.args.superstep in
    let ids = c.args.ids.now in
    let i = c.loop-id.id-index in
    let id = c.id-item.result in
    let before = c.loop-id.invariant in
    let added = c.in_ok-add_if_diverged.ensures in
    record {
      old_stays = added.old_stays ∙ before.old_stays;
      new_stays = added.new_stays ∙ before.new_stays;
      live = added.live ∙ (ap₂ ◌++◌ before.live
          (ap₂ (λ o n. live_among value_eq o n s (id ∷ [])) before.old_stays before.new_stays
          ∙ ap (λ k. live_among value_eq old new s (k ∷ [])) c.id-item.is) ∙ sym (filter_more _ ids i id c.loop-id-test.true));
      quiescent = added.quiescent ∙ (ap₂ ◌++◌ before.quiescent
          (ap₂ (λ o n. quiescent_among value_eq o n s (id ∷ [])) before.old_stays before.new_stays
          ∙ ap (λ k. quiescent_among value_eq old new s (k ∷ [])) c.id-item.is) ∙ sym (filter_more _ ids i id c.loop-id-test.true));
      eq_is_sound = subst (AreEqSound value_eq old new s) (sym (take_more ids i id c.loop-id-test.true))
          (all-append (λ k. has_same_state value_eq old new s k ≡ true → state_at k s old ≡ state_at k s new) (take i ids) _ before.eq_is_sound
          (subst (λ k. AreEqSound value_eq old new s (k ∷ [])) c.id-item.is
          (subst₂ (λ o n. AreEqSound value_eq o n s (id ∷ [])) before.old_stays before.new_stays added.eq_is_sound)));
    }

pub returns : goal.returns
returns g c =
    let value_eq = g.V.PartialEq.eq in
    let old = c.args.old.now in
    let new = c.args.new.now in
    let s = c.args.superstep in
    let all = take_all c.loop-id.id-index c.args.ids.now c.loop-id-test.false in
    let found = c.loop-id.invariant in
    record {
      live = found.live ∙ ap (live_among value_eq old new s) all;
      quiescent = found.quiescent ∙ ap (quiescent_among value_eq old new s) all;
      eq_is_sound = subst (AreEqSound value_eq old new s) all found.eq_is_sound;
    }

pub returns-in_err-add_if_diverged : goal.returns-in_err-add_if_diverged
returns-in_err-add_if_diverged g c =
    let none = c.from_residual.ensures.0 in
    let at = c.from_residual.result in
    record { live = IfOk-from_err at _ none; quiescent = IfOk-from_err at _ none; eq_is_sound = IfOk-from_err at _ none }
