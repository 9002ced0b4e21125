use Rattle.std.proofs.Common.{◌≡◌, ◌<◌, length, None, sym, ap, ◌∙◌, subst}
use Rattle.pg_map.specs.Entries.{HasRisingIds, value_at}
use Rattle.std.specs.List.{HoldsAt}
use Rattle.std.specs.Ordering.{nat_cmp}
use Rattle.std.specs.declared.cmp.Ordering.TheVariants.{Equal}
use Rattle.pg_trace_records.proofs.Parting.{entries_rise, given_found, given_missing}
use Rattle.pg_trace_records.proofs.changes.RecordChanges.given.Goals as goal

pub place_of-requires : goal.place_of-requires
place_of-requires g c =
    subst (λ l. HasRisingIds l) (sym c.as_slice.ensures.value)
    (entries_rise c.self.inside.sent.items c.self.inside.contributed.items c.self.inside.entries.items c.self.view_is c.requires)

pub returns-in_err-place : goal.returns-in_err-place
returns-in_err-place g c =
    c.from_residual.ensures
    ∙ given_missing c.self.inside.sent.items c.self.inside.contributed.items c.self.inside.entries.items c.self.view_is c.args.id
    (ap (value_at c.args.id) (sym c.as_slice.ensures.value) ∙ c.in_err-place.ensures.missing)

pub returns : goal.returns
returns g c =
    let seen = c.as_slice.ensures.value in
    let place = c.in_ok-place.place in
    ap (λ e. e.1) (c.at-given.ensures (0, None))
    ∙ given_found c.self.inside.sent.items c.self.inside.contributed.items c.self.inside.entries.items c.self.view_is c.args.id place (0, None) c.requires
    (subst (λ l. place < length l) seen c.in_ok-place.ensures.within)
    (subst (λ l. HoldsAt (λ e. nat_cmp e.0 c.args.id ≡ Equal) l place) seen c.in_ok-place.ensures.found)
