use Rattle.std.proofs.Common.{ℕ, List, ◌++◌, [], ◌∷◌, take, ap, sym, ◌∙◌, subst, map}
use Rattle.std.specs.List.{AllByRecursion}
use Rattle.std.specs.Map.{keys_of}
use Rattle.std.proofs.lemmas.List.{map-append, take_more}
use Rattle.pg_inbox.specs.Inboxes.{Delivers}
use Rattle.pg_model.proofs.LawsLists.{all-append}
use Rattle.pg_part_compute.proofs.reading.inboxes_at.Goals as goal

pub loop-id-preserved : goal.loop-id-preserved
loop-id-preserved g c =
    let combining = g.C.MessageCombiner.combining c.args.combiner.now in
    let pushed = c.in_ok-inboxes-2.ensures in
    let bundles = map (λ b. b.now) c.args.bundles.now in
    let one : ℕ × List g.row.M.Denot = (c.id-item.result, c.in_ok-inbox.inbox.items) in
    record {
      ids = ap keys_of pushed
          ∙ (map-append (λ e. e.0) c.loop-id.inboxes (one ∷ [])
          ∙ (ap (λ l. l ++ c.id-item.result ∷ []) c.loop-id.invariant.ids
          ∙ sym (take_more c.args.ids.now c.loop-id.id-index c.id-item.result c.loop-id-test.true
          ∙ ap (λ x. take c.loop-id.id-index c.args.ids.now ++ x ∷ []) (sym c.id-item.is))));
      delivered = subst (AllByRecursion (λ w. Delivers combining w.0 bundles w.1)) (sym pushed)
          (all-append (λ w. Delivers combining w.0 bundles w.1) c.loop-id.inboxes (one ∷ []) c.loop-id.invariant.delivered
          (c.in_ok-inbox.ensures.delivers, tt));
    }
