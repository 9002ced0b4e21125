use Rattle.std.proofs.Common.{ℕ, ◌++◌, List, [], ◌∷◌, ap, ap₂, sym, subst, ◌∙◌}
use Rattle.std.specs.List.{AllByRecursion}
use Rattle.std.specs.Option.{option_to_list}
use Rattle.std.proofs.lemmas.List.{append-nil}
use Rattle.pg_inbox.specs.Handed.{HoldAll, MessageLists}
use Rattle.pg_inbox.specs.LoggedBundle.{slot_at}
use Rattle.pg_model.proofs.LawsLists.{all-append}
use Rattle.pg_part_routing.specs.Routes.{bundle_in}
use Rattle.pg_part_routing.proofs.Listing.{flat_map-range}
use Rattle.pg_part_routing.proofs.received.bundles_at.Goals as goal
use Rattle.pg_part_routing.proofs.received.bundles_at.Goals.{in-Some+in_ok-cheap_clone+in_ok-push, in_default}

pub loop-from-preserved : goal.loop-from-preserved
loop-from-preserved g c =
    let at : ℕ → List (MessageLists g.row.M.Denot) = λ q. option_to_list (bundle_in (slot_at c.args.logs.now c.args.superstep q c.args.to)) in
    let from = c.loop-from.from in
    let asked = ap (λ q. slot_at c.args.logs.now c.args.superstep q c.args.to) c.new.ensures in
    let now = c.loop-from.invariant in
    elim c.match-get.branch [
      | in-Some+in_ok-cheap_clone+in_ok-push w ↦
          let pushed = ap (λ b. b.items) w.bundles-is ∙ w.in_ok-push.ensures.items in
          let copied = w.in_ok-cheap_clone.ensures.value in
          record {
            value = pushed
                ∙ (ap₂ ◌++◌ now.value (ap (λ b. b ∷ []) copied ∙ ap (λ o. option_to_list (bundle_in o)) (w.in-Some.ensures ∙ asked))
                ∙ sym (flat_map-range at from));
            hold = subst (AllByRecursion (HoldAll g.M.Plain.is_value)) (sym pushed)
                (all-append (HoldAll g.M.Plain.is_value) c.loop-from.bundles.items _ now.hold
                (subst (HoldAll g.M.Plain.is_value) (sym copied) w.in_ok-cheap_clone.ensures.hold, tt));
          }
      | in_default w ↦
          let same = ap (λ b. b.items) w.bundles-is in
          record {
            value = same
                ∙ (sym (append-nil c.loop-from.bundles.items)
                ∙ (ap₂ ◌++◌ now.value (ap (λ o. option_to_list (bundle_in o)) (w.in_default.ensures ∙ asked))
                ∙ sym (flat_map-range at from)));
            hold = subst (AllByRecursion (HoldAll g.M.Plain.is_value)) (sym same) now.hold;
          }
    ]
