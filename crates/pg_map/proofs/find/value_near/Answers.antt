use Rattle.std.proofs.Common.{Some, nat_eq, arith, sym, ap, ◌∙◌}
use Rattle.std.proofs.lemmas.Bool.{eqb-true}
use Rattle.std.proofs.lemmas.Option.{get_or_from_slice_get, slice_get-get_or, slice_get_within}
use Rattle.pg_map.proofs.Search.{lookup_next, lookup_past}
use Rattle.pg_map.proofs.find.value_near.Goals as goal

pub returns-then-place-entries : goal.returns-then-place-entries
returns-then-place-entries g c =
    let place = c.count_searched-place.result in
    sym
    (lookup_past c.args.entries.now c.args.id place c.requires c.count_searched-place.ensures
    (λ e at. absurd (omega (arith, c.if-place-entries.true, slice_get_within c.args.entries.now place e at))))

pub returns-then-eq : goal.returns-then-eq
returns-then-eq g c =
    let entry = c.index-entries-place-2.result in
    let place = c.count_searched-place.result in
    let at = slice_get-get_or c.args.entries.now place entry c.if-place-entries.false ∙ ap Some (sym c.index-entries-place-2.is) in
    sym (lookup_next c.args.entries.now c.args.id place entry c.requires at (eqb-true entry.0 c.args.id (sym c.if-eq.ensures)))

pub returns-else-eq : goal.returns-else-eq
returns-else-eq g c =
    let entry = c.index-entries-place-2.result in
    let place = c.count_searched-place.result in
    sym
    (lookup_past c.args.entries.now c.args.id place c.requires c.count_searched-place.ensures
    (λ e at. ap (λ x. nat_eq x.0 c.args.id) (sym (get_or_from_slice_get c.args.entries.now place e entry at) ∙ sym c.index-entries-place-2.is)
    ∙ sym c.if-eq.ensures))

pub returns-in-Some : goal.returns-in-Some
returns-in-Some g c =
    let entries = c.args.entries.now in
    let entry = c.index-entries-place.result in
    let place = c.in-Some.place in
    let at = slice_get-get_or entries place entry c.in-Some.ensures.inside ∙ ap Some (sym c.index-entries-place.is) in
    ap (λ e. Some e.1) (sym c.index-entries-place.is)
    ∙ sym (lookup_next entries c.args.id place entry c.requires at (c.in-Some.ensures.here entry c.index-entries-place.is))
