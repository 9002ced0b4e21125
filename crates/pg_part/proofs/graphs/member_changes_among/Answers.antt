use Rattle.std.proofs.Common.{◌++◌, [], ◌∷◌, take, ap, sym, ◌∙◌}
use Rattle.std.proofs.lemmas.List.{take_all}
use Rattle.std.proofs.lemmas.List.Elements.{filter_more}
use Rattle.pg_part.specs.MemberChanges.{member_changes_among}
use Rattle.pg_part.proofs.graphs.member_changes_among.Goals as goal

pub loop-id-preserved : goal.loop-id-preserved
loop-id-preserved c =
    let among = member_changes_among c.args.before.now c.args.after.now in
    let ids = c.args.ids.now in
    let i = c.loop-id.id-index in
    c.in_ok-add_if_in_one_graph.ensures
    ∙ (ap (λ l. l ++ among (c.id-item.result ∷ [])) c.loop-id.invariant
    ∙ (ap (λ id. among (take i ids) ++ among (id ∷ [])) c.id-item.is
    ∙ sym (filter_more _ ids i c.id-item.result c.loop-id-test.true)))

pub returns : goal.returns
returns c = c.loop-id.invariant ∙ ap (member_changes_among c.args.before.now c.args.after.now) (take_all c.loop-id.id-index c.args.ids.now c.loop-id-test.false)
