use Rattle.std.proofs.Common.{◌≡◌, ℕ, ◌+◌, ◌<◌, min, List, [], ◌∷◌, ◌++◌, length, get_or, take, ap, subst, sym, ◌∙◌, arith}
use Rattle.std.proofs.lemmas.List.{take_all, take_more}
use Rattle.std.proofs.lemmas.List.Sums.{sum_by_push}
use Rattle.pg_model.specs.Superstep.{capped, edges_of}
use Rattle.pg_model.specs.declared.configuration.VertexWithInbox.{VertexWithInbox}
use Rattle.pg_scratch.proofs.totals.counted.Goals as goal

counted_more : {V M : Type 0} (xs : List (VertexWithInbox V M)) (x : VertexWithInbox V M) (i total n total' : ℕ) → i < length xs → x ≡ get_or xs i x
    → total ≡ capped (edges_of (take i xs)) → n ≡ length x.state.edges → total' ≡ min (total + n) 18446744073709551615
    → total' ≡ capped (edges_of (take (i + 1) xs))
counted_more xs x i total n total' within is so_far here added =
    let more : edges_of (take (i + 1) xs) ≡ edges_of (take i xs) + length x.state.edges =
    ap edges_of (take_more xs i x within) ∙ ap (λ y. edges_of (take i xs ++ y ∷ [])) (sym is)
    ∙ sum_by_push (λ y. length y.state.edges) (take i xs) x in
    subst (λ e. total' ≡ capped e) (sym more) (omega (arith, so_far, here, added))

pub loop-with_inbox-preserved : goal.loop-with_inbox-preserved
loop-with_inbox-preserved g c =
    counted_more c.args.with_inboxes.now c.with_inbox-item.result c.loop-with_inbox.with_inbox-index c.loop-with_inbox.total
    (length c.as_slice.result.now) _ c.loop-with_inbox-test.true c.with_inbox-item.is c.loop-with_inbox.invariant
    (ap length c.as_slice.ensures.value) c.saturating_add-total.ensures

pub returns : goal.returns
returns g c =
    let all = take_all c.loop-with_inbox.with_inbox-index c.args.with_inboxes.now c.loop-with_inbox-test.false in
    c.loop-with_inbox.invariant ∙ ap (λ (l : List (VertexWithInbox g.row.V.Denot g.row.M.Denot)). capped (edges_of l)) all
