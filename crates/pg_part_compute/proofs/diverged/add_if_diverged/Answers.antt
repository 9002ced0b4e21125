use Rattle.std.proofs.Common.{◌≡◌, ℕ, Bool, true, false, not, ◌&&◌, cond, List, [], ◌∷◌, ◌++◌, Option, ap, ap₂, sym, ◌∙◌}
use Rattle.std.proofs.lemmas.List.{append-nil}
use Rattle.std.proofs.lemmas.Result.{IfOk-from_err}
use Rattle.std.specs.Option.{option_eq}
use Rattle.pg_model.specs.declared.configuration.VertexState.{VertexState}
use Rattle.pg_part_compute.specs.Diverged.{AreEqSound, are_quiescent, has_same_state, is_same_state}
use Rattle.pg_trace.specs.Trace.{Trace, state_at}
use Rattle.pg_part_compute.proofs.diverged.add_if_diverged.Goals as goal

module _ {V M : Type 0} (value_eq : V → V → Bool) (old new : Trace V M) (s id : ℕ) {o n : Option (VertexState V)}
    (old_is : o ≡ state_at id s old) (new_is : n ≡ state_at id s new) where
  same_are : {b : Bool} → b ≡ option_eq (is_same_state value_eq) o n → b ≡ has_same_state value_eq old new s id
  same_are e = e ∙ ap₂ (option_eq (is_same_state value_eq)) old_is new_is

  rest_are : {b : Bool} → b ≡ are_quiescent o n → b ≡ are_quiescent (state_at id s old) (state_at id s new)
  rest_are e = e ∙ ap₂ are_quiescent old_is new_is

  stated_are : {b : Bool} → b ≡ option_eq (is_same_state value_eq) o n → (b ≡ true → o ≡ n) → AreEqSound value_eq old new s (id ∷ [])
  stated_are e eq_is_sound = ((λ h. sym old_is ∙ eq_is_sound (same_are e ∙ h) ∙ new_is), tt)

-- an id that is added, or isn't
module _ (before : List ℕ) (id : ℕ) (adds : Bool → Bool → Bool) {same both_quiescent : Bool} (b r : Bool) (same_is : b ≡ same) (rests_are : r ≡ both_quiescent) where
  left_out : adds b r ≡ false → before ≡ before ++ cond (adds same both_quiescent) (id ∷ []) []
  left_out off = sym (append-nil before) ∙ ap (λ (t : Bool). before ++ cond t (id ∷ []) []) (sym off ∙ ap₂ adds same_is rests_are)

  put_in : {after : List ℕ} → after ≡ before ++ id ∷ [] → adds b r ≡ true → after ≡ before ++ cond (adds same both_quiescent) (id ∷ []) []
  put_in pushed on = pushed ∙ ap (λ (t : Bool). before ++ cond t (id ∷ []) []) (sym on ∙ ap₂ adds same_is rests_are)

abbrev live : Bool → Bool → Bool
live same both_quiescent = not same && not both_quiescent

abbrev quiescent : Bool → Bool → Bool
quiescent same both_quiescent = not same && both_quiescent

pub returns-then-is_same : goal.returns-then-is_same
returns-then-is_same g c =
    let value_eq = g.V.PartialEq.eq in
    let found = c.args.found.now in
    let old_is = c.state_at-old.ensures.value in
    let new_is = c.state_at-new.ensures.value in
    let same = same_are value_eq c.args.old.now c.args.new.now c.args.superstep c.args.id old_is new_is c.is_same.ensures.value in
    let rest = rest_are value_eq c.args.old.now c.args.new.now c.args.superstep c.args.id old_is new_is c.are_quiescent-both_quiescent.ensures in
    record {
      live = left_out found.live.items c.args.id live _ _ same rest (ap (λ t. live t c.are_quiescent-both_quiescent.result) c.if-is_same.true);
      quiescent = left_out found.quiescent.items c.args.id quiescent _ _ same rest (ap (λ t. quiescent t c.are_quiescent-both_quiescent.result) c.if-is_same.true);
      eq_is_sound = stated_are value_eq c.args.old.now c.args.new.now c.args.superstep c.args.id old_is new_is c.is_same.ensures.value c.is_same.ensures.eq_is_sound;
      old_stays = c.state_at-old.ensures.same;
      new_stays = c.state_at-new.ensures.same;
    }

pub returns-in_ok-push : goal.returns-in_ok-push
returns-in_ok-push g c =
    let value_eq = g.V.PartialEq.eq in
    let found = c.args.found.now in
    let old_is = c.state_at-old.ensures.value in
    let new_is = c.state_at-new.ensures.value in
    let same = same_are value_eq c.args.old.now c.args.new.now c.args.superstep c.args.id old_is new_is c.is_same.ensures.value in
    let rest = rest_are value_eq c.args.old.now c.args.new.now c.args.superstep c.args.id old_is new_is c.are_quiescent-both_quiescent.ensures in
    record {
      live = left_out found.live.items c.args.id live _ _ same rest (ap₂ live c.if-is_same.false c.if-both_quiescent.true);
      quiescent = put_in found.quiescent.items c.args.id quiescent _ _ same rest c.in_ok-push.ensures.items (ap₂ quiescent c.if-is_same.false c.if-both_quiescent.true);
      eq_is_sound = stated_are value_eq c.args.old.now c.args.new.now c.args.superstep c.args.id old_is new_is c.is_same.ensures.value c.is_same.ensures.eq_is_sound;
      old_stays = c.state_at-old.ensures.same;
      new_stays = c.state_at-new.ensures.same;
    }

pub returns-in_ok-push-2 : goal.returns-in_ok-push-2
returns-in_ok-push-2 g c =
    let value_eq = g.V.PartialEq.eq in
    let found = c.args.found.now in
    let old_is = c.state_at-old.ensures.value in
    let new_is = c.state_at-new.ensures.value in
    let same = same_are value_eq c.args.old.now c.args.new.now c.args.superstep c.args.id old_is new_is c.is_same.ensures.value in
    let rest = rest_are value_eq c.args.old.now c.args.new.now c.args.superstep c.args.id old_is new_is c.are_quiescent-both_quiescent.ensures in
    record {
      live = put_in found.live.items c.args.id live _ _ same rest c.in_ok-push-2.ensures.items (ap₂ live c.if-is_same.false c.if-both_quiescent.false);
      quiescent = left_out found.quiescent.items c.args.id quiescent _ _ same rest (ap₂ quiescent c.if-is_same.false c.if-both_quiescent.false);
      eq_is_sound = stated_are value_eq c.args.old.now c.args.new.now c.args.superstep c.args.id old_is new_is c.is_same.ensures.value c.is_same.ensures.eq_is_sound;
      old_stays = c.state_at-old.ensures.same;
      new_stays = c.state_at-new.ensures.same;
    }

pub returns-in_err-push : goal.returns-in_err-push
returns-in_err-push g c =
    let none = c.from_residual.ensures.0 in
    let at = c.from_residual.result in
    record {
      live = IfOk-from_err at _ none;
      quiescent = IfOk-from_err at _ none;
      eq_is_sound = stated_are g.V.PartialEq.eq c.args.old.now c.args.new.now c.args.superstep c.args.id c.state_at-old.ensures.value c.state_at-new.ensures.value
          c.is_same.ensures.value c.is_same.ensures.eq_is_sound;
      old_stays = c.state_at-old.ensures.same;
      new_stays = c.state_at-new.ensures.same;
    }

pub returns-in_err-push-2 : goal.returns-in_err-push-2
returns-in_err-push-2 g c =
    let none = c.from_residual-in_err-push-2.ensures.0 in
    let at = c.from_residual-in_err-push-2.result in
    record {
      live = IfOk-from_err at _ none;
      quiescent = IfOk-from_err at _ none;
      eq_is_sound = stated_are g.V.PartialEq.eq c.args.old.now c.args.new.now c.args.superstep c.args.id c.state_at-old.ensures.value c.state_at-new.ensures.value
          c.is_same.ensures.value c.is_same.ensures.eq_is_sound;
      old_stays = c.state_at-old.ensures.same;
      new_stays = c.state_at-new.ensures.same;
    }
