use Rattle.std.proofs.Common.{map, ap, subst, take, ◌++◌, ◌∷◌, [], ◌∙◌, sym}
use Rattle.std.specs.List.Sorted.{IsNonDecreasingBy}
use Rattle.std.proofs.lemmas.List.{map-append, take_all, take_more}
use Rattle.pg_model.proofs.LawsLists.{all_from_map}
use Rattle.pg_inbox.specs.Merged.{IsLowestOf}
use Rattle.pg_inbox.proofs.Merged.{all_at}
use Rattle.pg_inbox.proofs.lists.lowest_target.Goals as goal

pub lower-lowest-requires : goal.lower-lowest-requires
lower-lowest-requires g c =
    all_at (λ l. IsNonDecreasingBy (λ i. i.0) l.now) c.args.lists.now c.loop-list.list-index c.list-item.result c.loop-list-test.true c.list-item.is
    (all_from_map (λ l. l.now) (IsNonDecreasingBy (λ i. i.0)) c.args.lists.now c.requires)

pub loop-list-preserved : goal.loop-list-preserved
loop-list-preserved g c =
    let more = take_more c.args.lists.now c.loop-list.list-index c.list-item.result c.loop-list-test.true in
    subst (λ l. IsLowestOf l c.lower-lowest.result)
    (sym (ap (map (λ l. l.now)) (more ∙ ap (λ x. take c.loop-list.list-index c.args.lists.now ++ x ∷ []) (sym c.list-item.is))
    ∙ map-append (λ l. l.now) (take c.loop-list.list-index c.args.lists.now) (c.list-item.result ∷ [])))
    (c.lower-lowest.ensures (map (λ l. l.now) (take c.loop-list.list-index c.args.lists.now)) c.loop-list.invariant)

pub returns : goal.returns
returns g c =
    subst (λ l. IsLowestOf (map (λ l. l.now) l) c.loop-list.lowest) (take_all c.loop-list.list-index c.args.lists.now c.loop-list-test.false)
    c.loop-list.invariant
