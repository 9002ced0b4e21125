use Rattle.std.proofs.Common.{rules, ◌≡◌, ◌++◌, of_z, to_z, w64, ap, sym, ◌∙◌}
use Rattle.pg_graph_rows.specs.EdgeList.{with_edge}
use Rattle.pg_graph_rows.proofs.LastRow.{added, input_set, vertex_added, vertex_removed, was_cut, was_set}
use Rattle.pg_graph_rows.proofs.last_row.edit_last.Goals as goal

pub returns-in-AddVertex : goal.returns-in-AddVertex
returns-in-AddVertex c = λ front row long lies.
    let none = rw c.in_default.is at lies in
    let given : to_z w64 (of_z w64 c.in-AddVertex.given) ≡ c.in-AddVertex.given = search rules in
    rw (c.in-AddVertex.is, c.set.ensures, given) (vertex_added front row c.args.list.now.items none c.in-AddVertex.field-0 c.in-AddVertex.given)

pub returns-in-RemoveVertex : goal.returns-in-RemoveVertex
returns-in-RemoveVertex c = λ front row long lies.
    let there = rw c.in-Some.is at lies in
    rw c.in-RemoveVertex.is
    (vertex_removed front row c.in-Some._held c.args.list.now.items there c.in-RemoveVertex.field-0 c.args.first _ long c.truncate.ensures.items)

pub returns-in-SetInput : goal.returns-in-SetInput
returns-in-SetInput c = λ front row long lies.
    let there = rw c.in-Some.is at lies in
    let given : to_z w64 (of_z w64 c.in-SetInput.given) ≡ c.in-SetInput.given = search rules in
    rw (c.in-SetInput.is, c.set-in-SetInput.ensures, given)
    (input_set front row c.in-Some._held c.args.list.now.items there c.in-SetInput.field-0 c.in-SetInput.given)

pub returns-else-branch : goal.returns-else-branch
returns-else-branch c = λ front row long lies.
    let there = rw c.in-Some.is at lies in
    let put = c.in_ok-put_last-in-AddEdge.ensures.ok front there.last there.whole long there.rising in
    let weight : to_z w64 (of_z w64 c.in-AddEdge.weight) ≡ c.in-AddEdge.weight = search rules in
    rw (c.in-AddEdge.is, c.in-Some.is)
    (added front row c.in-Some._held c.args.list.now.items there c.in-AddEdge.field-0 c.in-AddEdge.target c.in-AddEdge.weight _
    (put.1 ∙ ap (λ w. front ++ with_edge c.in-AddEdge.target w there.last) weight) (sym put.0 ∙ c.if-branch.false))

pub returns-else-not-branch : goal.returns-else-not-branch
returns-else-not-branch c = λ front row long lies.
    let there = rw c.in-Some.is at lies in
    let put = c.in_ok-put_last-in-SetEdge.ensures.ok front there.last there.whole long there.rising in
    let weight : to_z w64 (of_z w64 c.in-SetEdge.weight) ≡ c.in-SetEdge.weight = search rules in
    rw (c.in-SetEdge.is, c.in-Some.is)
    (was_set front row c.in-Some._held c.args.list.now.items there c.in-SetEdge.field-0 c.in-SetEdge.target c.in-SetEdge.weight _
    (put.1 ∙ ap (λ w. front ++ with_edge c.in-SetEdge.target w there.last) weight) (sym put.0 ∙ c.if-not-branch.false))

pub returns-else-not-remove_last : goal.returns-else-not-remove_last
returns-else-not-remove_last c = λ front row long lies.
    let there = rw c.in-Some.is at lies in
    let cut = c.if-not-remove_last.ensures front there.last there.whole long there.rising in
    rw (c.in-RemoveEdge.is, c.in-Some.is)
    (was_cut front row c.in-Some._held c.args.list.now.items there c.in-RemoveEdge.field-0 c.in-RemoveEdge.target _ cut.1 (sym cut.0))
