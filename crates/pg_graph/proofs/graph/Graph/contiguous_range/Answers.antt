use Rattle.std.proofs.Common.{◌≡◌, ℕ, ◌+◌, ◌≤◌, length, IsSome, ap, subst, sym, ◌∙◌, arith}
use Rattle.std.specs.Map.Iter.{deref_pair}
use Rattle.std.proofs.lemmas.Bool.Decides.{nat_tests}
use Rattle.pg_graph_rows.specs.declared.row.Row.{Row}
use Rattle.pg_graph.specs.Rows.{row_at}
use Rattle.pg_graph.proofs.Stretch.{leaves_out_none, none_left}
use Rattle.pg_graph.proofs.graph.Graph.contiguous_range.Goals as goal

pub returns : goal.returns
returns c =
    let rows = c.self.inside.rows in
    let last = c.in_ok-last.last in
    let first : ℕ × Row = (c.in_ok-first.first.now, c.in_ok-first.field-0-1.now) in
    let x : ℕ × Row = (c.in_ok-id.id.now, c.in_ok-id.field-0-1.now) in
    let at : x.0 ≡ last = grind (arith, nat_tests, c.ne.ensures, c.if-ne.false) in
    let begins = sym c.iter.ensures.rest ∙ c.in_ok-first.ensures.steps in
    let from = sym c.iter_from-from.ensures.rest ∙ c.in_ok-id.ensures.steps in
    let none = none_left deref_pair c.next-2.new.self c.next-else-ne.new.self c.next-else-ne.result (sym c.is_some.ensures ∙ c.if-is_some.false)
    c.next-else-ne.ensures.steps in
    let vertices : c.vertices.result ≡ length rows = c.vertices.ensures.value ∙ sym (ap length c.self.view_is) in
    let many : first.0 + length rows ≡ last + 1 =
    omega (arith, vertices, c.in_ok-later.ensures, c.in_ok-checked_add.ensures, c.in_ok-last.ensures.value, c.number.ensures.value) in
    subst (λ r. (id : ℕ) → first.0 ≤ id → id ≤ last → IsSome (row_at id r)) c.self.view_is
    (leaves_out_none last rows first x c.next.new.self c.next-2.new.self c.iter.ensures.rising begins from none at many)
