use Rattle.std.proofs.Common.{◌≡◌, ap, sym, ◌∙◌, length}
use Rattle.pg_global.proofs.Registering.{registered_of-insert, length-registered_of}
use Rattle.pg_global.proofs.registry.Registry.add.Goals as goal

pub returns-clause-ok : goal.returns-clause-ok
returns-clause-ok c =
    let len : length c.args.self.now ≡ c.len-place.result =
    ap length (sym c.self.view_is) ∙ length-registered_of c.self.inside.registered.entries ∙ sym c.len-place.ensures.len in (
      c.new.ensures ∙ sym len,
      sym c.in_default.ensures.value,
      registered_of-insert c.args.name.now c.in-Ok.name c.args.registration c.args.self.now
          c.self.inside.registered.entries c.insert.new.self.entries c.self.view_is c.in-Ok.ensures.ok c.in_default.ensures.free c.in-Ok-insert.ensures.entries,
    )
