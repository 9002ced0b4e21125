use Rattle.std.proofs.Common.{ap, sym, ◌∙◌, Some}
use Rattle.pg_global.specs.Registry.{place_of}
use Rattle.pg_global.proofs.Registering.{place_of-registered}
use Rattle.pg_global.proofs.registry.Registry.place.Goals as goal

pub returns-in_err-place : goal.returns-in_err-place
returns-in_err-place c =
    c.from_residual.ensures ∙ sym c.in_err-place.was
    ∙ c.get_index_of.ensures.index ∙ place_of-registered c.args.name.now c.self.inside.registered.entries ∙ ap (place_of c.args.name.now) c.self.view_is

pub returns : goal.returns
returns c =
    ap Some c.new.ensures ∙ sym c.in_ok-place.was
    ∙ c.get_index_of.ensures.index ∙ place_of-registered c.args.name.now c.self.inside.registered.entries ∙ ap (place_of c.args.name.now) c.self.view_is
