use Rattle.std.proofs.Common.{◌≡◌, [], ◌∷◌, ◌++◌, length, All, ap, sym, ◌∙◌, subst, arith}
use Rattle.std.proofs.lemmas.List.Elements.{All-cons, All-nil}
use Rattle.pg_core.proofs.beginning.first_shown.Goals as goal
use Rattle.pg_graph.specs.Rows.{edge_count}
use Rattle.pg_model.specs.Superstep.{capped, visible_in}
use Rattle.pg_model.specs.declared.view.Visible.{Visible}

pub returns-clause-value : goal.returns-clause-value
returns-clause-value g c =
    let deciding = (g.M.MasterCompute.master c.args.master.now).deciding in
    let few : c.edges-edges.result ≡ capped (edge_count c.args.graph.now) = omega (arith, c.edges-edges.ensures.value, c.edges-edges.ensures.limit) in
    let shows = c.in_ok-visible.ensures.value
    ∙ (λ i. visible_in deciding (record { vertices = c.vertices-vertices.ensures.value i; edges = few i }) (c.new.ensures i) (c.in_ok-seen.ensures i)) in
    c.in_ok-push.ensures.items ∙ (ap (λ l. l ++ c.in_ok-visible.visible ∷ []) c.new-shown.ensures.items ∙ ap (λ v. v ∷ []) shows)

pub returns-clause-places : goal.returns-clause-places
returns-clause-places g c =
    let visible = c.in_ok-visible.visible in
    let many = c.args.gathered.now in
    let listed = c.in_ok-push.ensures.items ∙ ap (λ l. l ++ visible ∷ []) c.new-shown.ensures.items in
    subst (All (λ v. length v.values ≡ length many)) (sym listed)
    (All-cons (λ (v : Visible). length v.values ≡ length many) visible [] (c.in_ok-visible.ensures.places ∙ ap length c.in_ok-seen.ensures)
    (All-nil (λ (v : Visible). length v.values ≡ length many)))
