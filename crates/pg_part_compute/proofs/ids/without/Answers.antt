use Rattle.std.proofs.Common.{◌≡◌, ℕ, Bool, not, cond, List, [], ◌∷◌, ◌++◌, ap, sym, ◌∙◌}
use Rattle.std.proofs.lemmas.List.{append-nil, take_all}
use Rattle.pg_map.proofs.Filling.{kept_more}
use Rattle.pg_model.specs.Superstep.{has_id}
use Rattle.pg_part_compute.specs.Diverged.{without}
use Rattle.pg_part_compute.proofs.ids.without.Goals.{then-not-is_among+in_ok-push, else-not-is_among}
use Rattle.pg_part_compute.proofs.ids.without.Goals as goal

pub loop-id-preserved : goal.loop-id-preserved
loop-id-preserved c =
    let others = c.args.others.now in
    let id = c.id-item.result in
    let before = c.loop-id.rest.items in
    let after = c.if-not-is_among.rest.items in
    let with : Bool → List ℕ = λ b. before ++ cond (not b) (id ∷ []) [] in
    let added : after ≡ with (has_id others id) =
    elim c.if-not-is_among.branch [
      | then-not-is_among+in_ok-push w ↦
          let same : after ≡ w.push.new.self.items = λ i. (w.rest-is i).items in
          same ∙ w.in_ok-push.ensures.items ∙ sym (ap with (sym c.is_among.ensures ∙ w.if-not-is_among.true))
      | else-not-is_among w ↦
          let same : after ≡ before = λ i. (w.rest-is i).items in
          same ∙ sym (append-nil before) ∙ sym (ap with (sym c.is_among.ensures ∙ w.if-not-is_among.false))
    ] in
    record { rest = kept_more (λ k. not (has_id others k)) c.args.ids.now c.loop-id.id-index c.loop-id-test.true c.id-item.is c.loop-id.invariant.rest added }

pub returns : goal.returns
returns c = c.loop-id.invariant.rest ∙ ap (λ l. without l c.args.others.now) (take_all c.loop-id.id-index c.args.ids.now c.loop-id-test.false)
