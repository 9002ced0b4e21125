use Rattle.std.proofs.Common.{[], ap, sym, ◌∙◌, subst, slice_index_or, length, below_more, rules, arith}
use Rattle.std.specs.List.{slice_get}
use Rattle.std.proofs.lemmas.List.{get_or_default}
use Rattle.pg_inbox.specs.LoggedBundle.{slot_at}
use Rattle.pg_inbox.specs.Handed.{LoggedBundle}
use Rattle.pg_part_routing.specs.Sending.{IsRebuilt}
use Rattle.pg_part_routing.proofs.MessageEdits.{same_rebuilt}
use Rattle.pg_part_routing.proofs.Listing.{slice_get-before, slice_get-last}
use Rattle.pg_part_routing.proofs.sent.each_rebuilt.Goals as goal

pub loop-to-preserved : goal.loop-to-preserved
loop-to-preserved g c =
    let combining = g.C.MessageCombiner.combining c.args.combiner.now in
    let to = c.loop-to.to in
    let have = c.loop-to.bundles.items in
    let one : LoggedBundle g.row.M.Denot = c.in_ok-rebuilt.field-0 in
    let pushed = c.in_ok-push.ensures.items in
    let len = c.loop-to.invariant.len in
    record {
      len = search rules;
      bundles = below_more _ _
          (λ q below. subst (λ l. IsRebuilt combining (slice_index_or c.args.retracted.now q []) (slice_index_or c.args.added.now q [])
          (slot_at c.args.logs.now c.args.superstep c.args.from q) l)
          (sym (ap (λ l. slice_get l q) pushed ∙ slice_get-before have one q (omega (arith, len, below)))) (c.loop-to.invariant.bundles q below))
          (same_rebuilt combining
          (c.as_slice-retracted.ensures ∙ (c.index-retracted-to.is ∙ get_or_default c.args.retracted.now to c.index-retracted-to.result []
          (omega (arith, c.requires.retracted, c.loop-to-test.true))))
          (c.as_ref-added.ensures ∙
          (c.index-added-to.is ∙ get_or_default c.args.added.now to c.index-added-to.result [] (omega (arith, c.requires.added, c.loop-to-test.true))))
          (c.get-before.ensures ∙ ap (λ q. slot_at c.args.logs.now c.args.superstep c.args.from q) c.new.ensures)
          (sym (ap (slice_get c.push.new.self.items) (sym len) ∙ (ap (λ l. slice_get l (length have)) pushed ∙ slice_get-last have one)))
          c.in_ok-rebuilt.ensures);
    }
