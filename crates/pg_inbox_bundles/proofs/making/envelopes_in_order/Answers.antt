use Rattle.std.proofs.Common.{◌≡◌, ℕ, ◌+◌, ◌∷◌, [], ◌++◌, ◌<◌, Some, length, map, slice_get, take, refl, ap, sym, ◌∙◌, subst, arith}
use Rattle.std.specs.Option.{option_map}
use Rattle.std.proofs.lemmas.List.{length-map, take_more}
use Rattle.std.proofs.lemmas.Option.{slice_get-map, slice_get_read, slice_get_within}
use Rattle.pg_inbox_bundles.specs.Outbox.{as_item}
use Rattle.pg_sort.proofs.Taken.{zip_push}
use Rattle.pg_map.proofs.Filling.{all_pushed}
use Rattle.pg_inbox_bundles.proofs.making.envelopes_in_order.Goals as goal

pub loop-place-preserved : goal.loop-place-preserved
loop-place-preserved g c =
    let sent = c.args.sent.now in
    let order = c.args.order.now in
    let i = c.loop-place.place-index in
    let at = c.loop-place-item.result in
    let send = c.at-sender.result in
    let item : ℕ × ℕ × g.row.M.Denot = (send.0, send.1, send.2.now) in
    let there : slice_get (map (λ s. s.1) sent) at.0 ≡ Some at.1 =
    subst (λ e. slice_get (map (λ s. s.1) sent) e.0 ≡ Some e.1) (sym c.loop-place-item.is) (c.requires.each i at c.loop-place-test.true) in
    let within : at.0 < length sent = omega (arith, slice_get_within (map (λ s. s.1) sent) at.0 at.1 there, length-map sent (λ s. s.1)) in
    let stands : slice_get (map as_item sent) at.0 ≡ Some (as_item item) =
    slice_get-map as_item sent at.0 ∙ ap (option_map as_item) (slice_get_read sent (length sent) at.0 item refl within (c.at-sender.ensures item)) in
    let more : take (i + 1) order ≡ take i order ++ at ∷ [] =
    take_more order i at c.loop-place-test.true ∙ ap (λ e. take i order ++ e ∷ []) (sym c.loop-place-item.is) in
    let pushed = c.in_ok-push.ensures.items in
    record {
      stand = rw (more, pushed ∙ ap (λ m. c.loop-place.envelopes.items ++ (item.1, (item.0, m)) ∷ []) c.in_ok-copied_message.ensures.same)
          (zip_push (λ e envelope. slice_get (map as_item sent) e.0 ≡ Some envelope) (take i order) c.loop-place.envelopes.items at (as_item item)
          c.loop-place.invariant.stand stands);
      values = all_pushed (λ p. g.M.Plain.is_value p.1.1) c.loop-place.envelopes.items c.loop-place.invariant.values pushed c.in_ok-copied_message.ensures.value;
    }
