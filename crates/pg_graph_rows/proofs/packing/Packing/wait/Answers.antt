use Rattle.std.proofs.Common.{rules, [], ◌∷◌, ◌++◌, sym, ap, ◌∙◌, append_assoc}
use Rattle.pg_graph_rows.specs.Packing.{rows_of}
use Rattle.pg_graph_rows.proofs.SideBySide.{parts_stay, parts_push, rows_push}
use Rattle.pg_graph_rows.proofs.packing.Packing.wait.Goals as goal

pub invariant_of-self-in_err-push : goal.invariant_of-self-in_err-push
invariant_of-self-in_err-push c =
    rw (c.in_err-push.ensures.items, c.in_ok-extend_from_slice.ensures.items) (parts_stay _ _ _ c.self.invariant)

pub invariant_of-self-2 : goal.invariant_of-self-2
invariant_of-self-2 c =
    let waiting = c.self.inside.waiting.items in
    let edges = c.self.inside.edges.items in
    rw (c.in_ok-push.ensures.items, c.in_ok-extend_from_slice.ensures.items)
    (parts_push waiting edges c.as_slice-edges.result.now _ c.self.invariant (search rules) (search rules) c.as_slice-edges.ensures.rising)

pub returns : goal.returns
returns c =
    let waiting = c.self.inside.waiting.items in
    let edges = c.self.inside.edges.items in
    let done = c.self.inside.done.items in
    rw (c.in_ok-push.ensures.items, c.in_ok-extend_from_slice.ensures.items, ← c.self.view_is)
    (ap (λ rows. done ++ rows) (rows_push waiting edges c.as_slice-edges.result.now _ c.self.invariant (search rules) (search rules))
    ∙ sym (append_assoc done (rows_of waiting edges) _)
    ∙ ap (λ row. (done ++ rows_of waiting edges) ++ (c.args.id, row) ∷ []) (search rules))
