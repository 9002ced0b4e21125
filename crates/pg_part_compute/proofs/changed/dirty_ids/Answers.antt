use Rattle.std.proofs.Common.{◌≡◌, ℕ, ◌&&◌, true, false, ◌++◌, sym, ap, ◌∙◌}
use Rattle.pg_inbox.specs.Inboxes.{is_receiver}
use Rattle.pg_model.specs.Superstep.{has_id}
use Rattle.pg_inbox.proofs.Among.{in_neither, neither, not_second}
use Rattle.pg_inbox.proofs.Delivery.{delivers_nothing}
use Rattle.pg_part_compute.proofs.changed.dirty_ids.Goals as goal

pub returns-clause-dirty : goal.returns-clause-dirty
returns-clause-dirty g c combining =
    let live = c.args.diverged.now.live.items in
    let before : (id : ℕ) → has_id c.rising.result.items id ≡ false → has_id c.add_unhalted.new.ids.items id ≡ false =
    λ id other. sym (c.rising.ensures.same id) ∙ other in
    let received : (id : ℕ) → has_id c.rising.result.items id ≡ false → (has_id c.add_all.new.ids.items id ≡ false)
    × (has_id c.as_slice-2.result.now id ≡ true → is_receiver c.args.bundles.now id ≡ false) =
    λ id other.
    let none = neither (has_id c.add_all.new.ids.items id) (has_id c.as_slice-2.result.now id && is_receiver c.args.bundles.now id)
    (sym (c.in_ok-add_receivers.ensures.added id) ∙ (c.in_ok-add_unhalted.ensures id (before id other)).0) in
    (none.0, not_second (has_id c.as_slice-2.result.now id) (is_receiver c.args.bundles.now id) none.1) in
    let parts : (id : ℕ) → has_id c.rising.result.items id ≡ false → (has_id c.in_ok-ids.ids.items id ≡ false) × (has_id live id ≡ false) =
    λ id other. in_neither c.in_ok-ids.ids.items live c.add_all.new.ids.items
    (c.in_ok-add_all.ensures ∙ ap (λ l. c.in_ok-ids.ids.items ++ l) c.as_slice.ensures.value) id
    (received id other).0 in
    record {
      rise = c.rising.ensures.rise;
      states = λ id other. (parts id other).1;
      still = λ id other both_quiescent.
          delivers_nothing id c.args.bundles.now ((received id other).1 (ap (λ l. has_id l id) c.as_slice-2.ensures.value ∙ both_quiescent)) combining;
      messages = λ r q id next below other. c.in_ok-ids.ensures r q id next below (parts id other).0;
      unhalted = λ off id other. (c.in_ok-add_unhalted.ensures id (before id other)).1 off;
    }
