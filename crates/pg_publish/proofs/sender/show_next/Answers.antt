use Rattle.std.proofs.Common.{◌≡◌, List, [], ◌∷◌, fold, ap, ◌∙◌}
use Rattle.pg_publish.specs.History.{Beginning}
use Rattle.pg_publish.proofs.Seats.{finds}
use Rattle.pg_publish.proofs.sender.show_next.Goals as goal

pub publish_as-after-requires : goal.publish_as-after-requires
publish_as-after-requires g c next is =
    let now = c.loop.writer.desk.shown.value in
    let after : List (Beginning g.row.E.Denot) → Beginning g.row.E.Denot = λ pending. fold (λ s n. n) now pending in
    let logged : next ≡ after (c.args.next.now ∷ []) = is ∙ ap after c.loop.invariant.2 in
    let own : next.publisher ≡ now.publisher = ap (λ b. b.publisher) logged ∙ c.loop.invariant.3 in
    finds _ _ now next own
