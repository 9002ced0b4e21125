use Rattle.std.proofs.Common.{◌≡◌, ◌∙◌, ℕ, Err, ap, map, sym, subst}
use Rattle.std.proofs.lemmas.List.{nil_from_length}
use Rattle.std.proofs.lemmas.Result.{err_from_is_err_and}
use Rattle.pg_checkpoint.specs.Bounds.{MayHold}
use Rattle.pg_checkpoint.specs.Contents.{record_of}
use Rattle.pg_checkpoint.proofs.Held.{held_all, not_held, not_within, of_one}
use Rattle.pg_map.specs.Entries.{HasRisingIds}
use Rattle.pg_map.proofs.Moved.{moved_all}
use Rattle.pg_model.specs.declared.record.Record.{Record}
use Rattle.pg_checkpoint.proofs.bounds.superstep_within.Goals as goal

pub returns-in_err-record : goal.returns-in_err-record
returns-in_err-record g c =
    let p = err_from_is_err_and c.from_residual.result c.from_residual.ensures.1 in
    let limits = c.args.bounds.now in
    let s = c.args.superstep in
    not_within (λ (r : ℕ × Record g.row.V.Denot g.row.M.Denot). r ≡ record_of c.in-Some.one) _ c.in_err-record.field-0.0 (p.1 ∙ ap Err p.2)
    (λ may. of_one record_of (MayHold limits s) c.loop-one.yielded c.next.new.self.rest.items c.in-Some.one c.in-Some.ensures.steps.0
    c.loop-one.invariant.whole may.each) c.in_err-record.ensures

pub returns-then-rise : goal.returns-then-rise
returns-then-rise g c =
    let remaining = c.loop-one.one-iterator.rest in
    let all = moved_all c.loop-one.yielded (nil_from_length remaining.items (sym remaining.ok.0 ∙ c.in-None.ensures.steps.0)) c.loop-one.invariant.whole in
    let may = held_all c.args.bounds.now c.args.superstep c.loop-one.yielded c.args.parts c.loop-one.records all c.loop-one.invariant.made
    c.loop-one.invariant.each
    (subst HasRisingIds c.as_slice.ensures (c.rise.ensures.yes c.if-rise.true)) in
    (c.into_vec.ensures ∙ c.loop-one.invariant.made ∙ ap (map record_of) all, may)

pub returns-else-rise : goal.returns-else-rise
returns-else-rise g c =
    let remaining = c.loop-one.one-iterator.rest in
    let all = moved_all c.loop-one.yielded (nil_from_length remaining.items (sym remaining.ok.0 ∙ c.in-None.ensures.steps.0)) c.loop-one.invariant.whole in
    not_held c.args.bounds.now c.args.superstep c.loop-one.yielded c.args.parts c.loop-one.records all c.loop-one.invariant.made
    (λ rise. c.rise.ensures.no c.if-rise.false (subst HasRisingIds (sym c.as_slice.ensures) rise))
