use Rattle.std.proofs.Common.{sym, ap, ◌∙◌, ◌<◌, length, cond, ◌==◌, Some, subst}
use Rattle.pg_inbox.specs.SparseVec.{value_in}
use Rattle.pg_inbox.proofs.AtPlaces.{value_in-set}
use Rattle.pg_inbox.proofs.places.SparseVec.set.Goals as goal

pub returns : goal.returns
returns g c other =
    let xs = c.self.inside.values.items in
    let within : c.args.place < length xs = subst (λ l. c.args.place < length l) (sym c.self.view_is) c.requires in
    value_in-set c.args.place other xs (Some c.args.value) within ∙ ap (λ l. cond (c.args.place == other) (Some c.args.value) (value_in other l)) c.self.view_is
