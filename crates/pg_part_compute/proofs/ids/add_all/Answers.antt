use Rattle.std.proofs.Common.{◌++◌, [], ◌∷◌, take, append_assoc, ap, ◌∙◌}
use Rattle.std.proofs.lemmas.List.{take_all}
use Rattle.pg_part_routing.proofs.Listing.{one_taken}
use Rattle.pg_part_compute.proofs.ids.add_all.Goals as goal

pub loop-id-preserved : goal.loop-id-preserved
loop-id-preserved c =
    let before = c.args.ids.now.items in
    let more = c.args.more.now in
    let i = c.loop-id.id-index in
    let one = c.id-item.result ∷ [] in
    c.in_ok-push.ensures.items ∙ ap (λ l. l ++ one) c.loop-id.invariant ∙ append_assoc before (take i more) one
    ∙ ap (λ l. before ++ l) (one_taken more i c.loop-id-test.true c.id-item.is)

pub returns : goal.returns
returns c = c.loop-id.invariant ∙ ap (λ l. c.args.ids.now.items ++ l) (take_all c.loop-id.id-index c.args.more.now c.loop-id-test.false)
