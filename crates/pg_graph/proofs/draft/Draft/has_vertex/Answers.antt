use Rattle.std.proofs.Common.{◌≡◌, is_some, Option, None, Some, Bor, refl, ap, sym, ◌∙◌}
use Rattle.std.specs.Option.{unwrap_or, option_copied}
use Rattle.pg_graph.specs.Rows.{row_at}
use Rattle.pg_map.proofs.Changing.{value_at-with_changes}
use Rattle.pg_graph_rows.specs.declared.row.Row.{Row}
use Rattle.pg_graph.proofs.draft.Draft.has_vertex.Goals as goal

pub returns-in-Some : goal.returns-in-Some
returns-in-Some c =
    let inside = c.self.inside in
    let stated = value_at-with_changes inside.changes.entries inside.graph.now c.args.id c.self.invariant.changes_rise c.self.invariant.graph_rises in
    c.is_some.ensures
    ∙ ap (λ o. is_some (unwrap_or o (row_at c.args.id inside.graph.now))) c.in-Some.ensures.value
    ∙ ap is_some (sym stated)
    ∙ ap (λ p. is_some (row_at c.args.id p.1)) c.self.view_is

-- a copied option is there where the option is
is_some-copied : (row : Option (Bor Row)) → is_some row ≡ is_some (option_copied row)
is_some-copied None = refl
is_some-copied (Some row) = refl

pub returns-in-None : goal.returns-in-None
returns-in-None c =
    let inside = c.self.inside in
    let stated = value_at-with_changes inside.changes.entries inside.graph.now c.args.id c.self.invariant.changes_rise c.self.invariant.graph_rises in
    c.is_some-in-None.ensures
    ∙ is_some-copied c.row.result
    ∙ ap is_some c.row.ensures
    ∙ ap (λ o. is_some (unwrap_or o (row_at c.args.id inside.graph.now))) c.in-None.ensures.value
    ∙ ap is_some (sym stated)
    ∙ ap (λ p. is_some (row_at c.args.id p.1)) c.self.view_is
