use Rattle.std.proofs.Common.{sym, ap, ◌∙◌, ◌≤◌, ◌<◌, length, arith}
use Rattle.pg_inbox.specs.SparseVec.{value_in}
use Rattle.pg_inbox.proofs.AtPlaces.{value_in-get, value_in-past}
use Rattle.pg_inbox.proofs.places.SparseVec.get.Goals as goal

pub returns-then-place-len : goal.returns-then-place-len
returns-then-place-len g c =
    let xs = c.self.inside.values.items in
    let past : length xs ≤ c.args.place = omega (arith, c.len.ensures, c.if-place-len.true) in
    sym (value_in-past c.args.place xs past) ∙ ap (value_in c.args.place) c.self.view_is

pub returns : goal.returns
returns g c =
    let xs = c.self.inside.values.items in
    let within : c.args.place < length xs = omega (arith, c.len.ensures, c.if-place-len.false) in
    c.as_ref.ensures.value ∙ (c.index.ensures ∙ (value_in-get c.args.place xs c.index.result.now within ∙ ap (value_in c.args.place) c.self.view_is))
