use Rattle.std.proofs.Common.{length, take, ◌++◌, ◌∷◌, [], refl, ap, sym, ◌∙◌, subst}
use Rattle.std.proofs.lemmas.List.{take_all, take_more}
use Rattle.std.proofs.lemmas.Option.{slice_get_read}
use Rattle.pg_import.proofs.SourceFacts.{LeadElsewhere, LeadElsewhere-push, weight_at-elsewhere, weight_at-there}
use Rattle.pg_import.proofs.looked_up.sources.has_target_of_few.Goals as goal

pub returns-then-eq : goal.returns-then-eq
returns-then-eq c =
    let edges = c.args.edges.now in
    let at = slice_get_read edges (length edges) c.loop-edge.edge-index c.edge-item.result refl c.loop-edge-test.true c.edge-item.is in
    sym (weight_at-there c.args.target edges c.loop-edge.edge-index at (sym c.eq.ensures ∙ c.if-eq.true))

pub loop-edge-preserved : goal.loop-edge-preserved
loop-edge-preserved c =
    let edges = c.args.edges.now in
    let i = c.loop-edge.edge-index in
    let more = take_more edges i c.edge-item.result c.loop-edge-test.true ∙ ap (λ e. take i edges ++ e ∷ []) (sym c.edge-item.is) in
    subst (LeadElsewhere c.args.target) (sym more)
    (LeadElsewhere-push c.args.target (take i edges) c.edge-item.result c.loop-edge.invariant (sym c.eq.ensures ∙ c.if-eq.false))

pub returns : goal.returns
returns c =
    let edges = c.args.edges.now in
    sym (weight_at-elsewhere c.args.target edges
    (subst (LeadElsewhere c.args.target) (take_all c.loop-edge.edge-index edges c.loop-edge-test.false) c.loop-edge.invariant))
