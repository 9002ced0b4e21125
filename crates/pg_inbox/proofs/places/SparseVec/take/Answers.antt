use Rattle.std.proofs.Common.{sym, ap, ◌∙◌, ◌≤◌, ◌<◌, length, arith, cond, ◌==◌, None, set}
use Rattle.pg_inbox.specs.SparseVec.{value_in}
use Rattle.pg_inbox.proofs.AtPlaces.{value_in-get, value_in-none, value_in-past, value_in-set}
use Rattle.pg_inbox.proofs.places.SparseVec.take.Goals as goal

pub returns-then-place-len-clause-value : goal.returns-then-place-len-clause-value
returns-then-place-len-clause-value g c =
    let xs = c.self.inside.values.items in
    let past : length xs ≤ c.args.place = omega (arith, c.len.ensures, c.if-place-len.true) in
    sym (value_in-past c.args.place xs past) ∙ ap (value_in c.args.place) c.self.view_is

pub returns-then-place-len-clause-others : goal.returns-then-place-len-clause-others
returns-then-place-len-clause-others g c other =
    let xs = c.self.inside.values.items in
    let past : length xs ≤ c.args.place = omega (arith, c.len.ensures, c.if-place-len.true) in
    sym (ap (value_in other) c.self.view_is) ∙ (value_in-none c.args.place other xs past
    ∙ ap (λ l. cond (c.args.place == other) None (value_in other l)) c.self.view_is)

pub returns-clause-value : goal.returns-clause-value
returns-clause-value g c =
    let xs = c.self.inside.values.items in
    let within : c.args.place < length xs = omega (arith, c.len.ensures, c.if-place-len.false) in
    c.take.ensures.value ∙ (c.index_mut.ensures.value ∙ (value_in-get c.args.place xs c.index_mut.result.now within
    ∙ ap (value_in c.args.place) c.self.view_is))

pub returns-clause-others : goal.returns-clause-others
returns-clause-others g c other =
    let xs = c.self.inside.values.items in
    let within : c.args.place < length xs = omega (arith, c.len.ensures, c.if-place-len.false) in
    ap (λ v. value_in other (set xs c.args.place v)) c.take.ensures.after
    ∙ (value_in-set c.args.place other xs None within ∙ ap (λ l. cond (c.args.place == other) None (value_in other l)) c.self.view_is)
