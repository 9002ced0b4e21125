use Rattle.std.proofs.Common.{◌≡◌, ℕ, Global, Vec, ◌∙◌, Err, ap, arith, map, refl}
use Rattle.std.proofs.lemmas.List.{length_push}
use Rattle.std.proofs.lemmas.Result.{err_from_is_err_and}
use Rattle.pg_checkpoint.specs.Contents.{record_of}
use Rattle.pg_checkpoint.proofs.Held.{held_push, images_push, not_within, of_superstep}
use Rattle.pg_map.proofs.Moved.{moved_one}
use Rattle.pg_model.specs.declared.record.Record.{Record}
use Rattle.pg_checkpoint.proofs.bounds.records_within.Goals as goal

pub returns-in_err-superstep : goal.returns-in_err-superstep
returns-in_err-superstep g c =
    let p = err_from_is_err_and c.from_residual.result c.from_residual.ensures.1 in
    let limits = c.args.bounds.now in
    let one = c.in-Some.parts in
    not_within (λ (l : Vec (ℕ × Record g.row.V.Denot g.row.M.Denot) Global). l.items ≡ map record_of one) _ c.in_err-superstep.field-0.0 (p.1 ∙ ap Err p.2)
    (of_superstep limits c.loop-parts.number c.loop-parts.yielded c.next.new.self.rest.items one c.loop-parts.invariant.count
    c.in-Some.ensures.steps.0 c.loop-parts.invariant.whole) c.in_err-superstep.ensures

pub loop-parts-preserved : goal.loop-parts-preserved
loop-parts-preserved g c =
    let so_far = c.loop-parts.invariant in
    let one = c.in-Some.parts in
    let long = length_push c.loop-parts.yielded one in
    record {
      whole = moved_one c.loop-parts.yielded c.next.new.self.rest.items c.in-Some.ensures.steps.0 so_far.whole refl;
      count = omega (arith, long, so_far.count);
      made = images_push (λ x. x.items) (map record_of) c.loop-parts.yielded one c.loop-parts.records c.in_ok-superstep.superstep so_far.made
          c.in_ok-push.ensures.ok c.in_ok-superstep.ensures.0;
      held = held_push c.args.bounds.now c.loop-parts.number c.loop-parts.yielded one so_far.count so_far.held c.in_ok-superstep.ensures.1;
    }
