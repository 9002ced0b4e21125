use Rattle.std.proofs.Common.{[], ◌+◌, ◌<◌, ap, sym, ◌∙◌, subst, subst₂, slice_index_or, length, below_more}
use Rattle.std.specs.List.{slice_get}
use Rattle.std.proofs.lemmas.List.{get_or_default, length_push}
use Rattle.pg_inbox.specs.Handed.{LoggedBundle}
use Rattle.pg_part_routing.specs.Sending.{IsFresh}
use Rattle.pg_part_routing.proofs.Listing.{slice_get-before, slice_get-last}
use Rattle.pg_part_routing.proofs.sent.each_fresh.Goals as goal

pub loop-sends-preserved : goal.loop-sends-preserved
loop-sends-preserved g c =
    let combining = g.C.MessageCombiner.combining c.args.combiner.now in
    let parts = c.args.parts.now in
    let have = c.loop-sends.bundles.items in
    let one : LoggedBundle g.row.M.Denot = c.in_ok-fresh.field-0 in
    let pushed = c.in_ok-push.ensures.items in
    let len = c.loop-sends.invariant.len in
    record {
      len = ap length pushed ∙ length_push have one ∙ ap (λ k. k + 1) len;
      bundles = below_more _ _
          (λ q below. subst (λ l. IsFresh combining (slice_index_or parts q []) l)
          (sym (ap (λ l. slice_get l q) pushed ∙ slice_get-before have one q (subst (λ n. q < n) (sym len) below)))
          (c.loop-sends.invariant.bundles q below))
          (subst₂ (λ sends l. IsFresh combining sends l)
          (c.as_ref.ensures ∙ (c.sends-item.is ∙ get_or_default parts c.loop-sends.sends-index c.sends-item.result [] c.loop-sends-test.true))
          (sym (ap (slice_get c.push.new.self.items) (sym len) ∙ (ap (λ l. slice_get l (length have)) pushed ∙ slice_get-last have one)))
          c.in_ok-fresh.ensures);
    }
