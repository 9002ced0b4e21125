use Rattle.std.proofs.Common.{ℕ, List, ◌<◌, ◌++◌, ◌∷◌, [], take, ap, sym, ◌∙◌, subst}
use Rattle.std.proofs.lemmas.List.Elements.{filter-append}
use Rattle.pg_model.specs.Share.{belongs}
use Rattle.pg_part_routing.specs.Starting.{own}
use Rattle.pg_part_routing.proofs.Listing.{one_taken}
use Rattle.pg_part_compute.proofs.vertex_pairs.only_own.Goals as goal

pub loop-place-preserved : goal.loop-place-preserved
loop-place-preserved g c =
    let n = c.args.share.now.partitions in
    let p = c.args.share.now.partition in
    let all = c.args.work_items.now in
    let i = c.loop-place.place in
    let one : ℕ × List g.row.M.Denot = (c.at-id.result.0, c.at-id.result.1.now) in
    let within = subst (λ n. i < n) c.len-place-end.ensures c.loop-place-test.true in
    c.in_ok-own-2.ensures ∙ ap (λ l. l ++ own n p (one ∷ [])) c.loop-place.invariant
    ∙ sym (filter-append (λ c. belongs n p c.0) (take i all) (one ∷ []))
    ∙ ap (own n p) (one_taken all i within (c.at-id.ensures one))
