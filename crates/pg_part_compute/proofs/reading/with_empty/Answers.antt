use Rattle.std.proofs.Common.{◌≡◌, ℕ, ◌+◌, ◌<◌, List, [], ◌∷◌, ◌++◌, append_assoc, ap, drop, sym, ◌∙◌, subst}
use Rattle.std.proofs.lemmas.List.{drop_more}
use Rattle.pg_map.specs.Entries.{HasRisingIds}
use Rattle.pg_map.proofs.Parts.{rises_after}
use Rattle.pg_part_compute.specs.Lists.{with_empty}
use Rattle.pg_part_compute.proofs.reading.with_empty.Goals as goal

pub loop-place-preserved : goal.loop-place-preserved
loop-place-preserved g c =
    let now = c.loop-place in
    let all = c.args.inboxes.now in
    let one : ℕ × List g.row.M.Denot = (c.at-id.result.0, c.at-id.result.1.now) in
    let rest = drop (now.place + 1) all in
    let within = subst (λ n. now.place < n) c.len-place-end.ensures c.loop-place-test.true in
    let at : drop now.place all ≡ one ∷ rest =
    drop_more all now.place one within ∙ ap (λ x. x ∷ rest) (sym (c.at-id.ensures one)) in
    let rising : HasRisingIds (one ∷ rest) = subst HasRisingIds at now.invariant.inboxes_rise in
    let above = c.in_ok-put.above.now in
    record {
      made = ap (λ l. l ++ with_empty above rest) c.in_ok-all-2.ensures
          ∙ append_assoc c.in_ok-put.put (one ∷ []) (with_empty above rest)
          ∙ c.in_ok-put.ensures.put one.1 rest rising
          ∙ ap (λ l. now.all ++ with_empty now.remaining.now l) (sym at)
          ∙ now.invariant.made;
      ids_rise = c.in_ok-put.ensures.rise;
      inboxes_rise = rises_after one rest rising;
    }
