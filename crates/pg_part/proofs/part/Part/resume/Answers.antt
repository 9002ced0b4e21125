use Rattle.std.proofs.Common.{◌≡◌, ◌≤◌, ◌++◌, [], ◌∷◌, None, length, map, ap, sym, ◌∙◌, subst, arith, append_assoc}
use Rattle.std.proofs.lemmas.List.{length-map, length_push, map-append, nil_from_length}
use Rattle.std.proofs.lemmas.Result.{IfOk-from_err}
use Rattle.pg_part.specs.PartRun.{IsResumed}
use Rattle.pg_part.proofs.RunResuming.{resumed_more, resumed_none}
use Rattle.pg_map.specs.Entries.{HasRisingIds}
use Rattle.pg_map.proofs.Moved.{moved_all}
use Rattle.pg_model.specs.Run.{run_length}
use Rattle.pg_model.specs.Share.{records_below}
use Rattle.pg_part.specs.Part.{HoldsShare}
use Rattle.pg_part.proofs.Resuming.{again, fewer_before, next_place, of_each, on_advanced}
use Rattle.pg_part.proofs.part.Part.resume.Goals as goal

pub loop-superstep-init : goal.loop-superstep-init
loop-superstep-init g c = record {
  whole = c.into_iter-superstep-iterator.ensures.into_iter_gives.0;
  resumed = resumed_none c.args.self.part_run c.requires.cold;
  holds = λ job rows n p same held within are. held;
}

pub resumed-requires-clause-rise : goal.resumed-requires-clause-rise
resumed-requires-clause-rise g c κs within =
    of_each (λ l. HasRisingIds l.items) c.loop-superstep.yielded c.next.new.self.rest.items c.in-Some.superstep c.in-Some.ensures.steps.0
    c.loop-superstep.invariant.whole c.requires.rise

pub resumed-requires-clause-next : goal.resumed-requires-clause-next
resumed-requires-clause-next g c κs within =
    (next_place (map (λ l. l.items) c.loop-superstep.yielded) c.args.self.part_run c.loop-superstep.part.part_run c.loop-superstep.invariant.resumed
    c.requires.first c.requires.unrecorded).0

pub resumed-requires-clause-counts : goal.resumed-requires-clause-counts
resumed-requires-clause-counts g c κs within =
    let yielded = c.loop-superstep.yielded in
    let place = (next_place (map (λ l. l.items) yielded) c.args.self.part_run c.loop-superstep.part.part_run c.loop-superstep.invariant.resumed
    c.requires.first c.requires.unrecorded).1 in
    let as_many = length-map yielded (λ l. l.items) in
    let fewer = fewer_before yielded c.next.new.self.rest.items c.in-Some.superstep c.in-Some.ensures.steps.0 c.loop-superstep.invariant.whole in
    omega (arith, place, as_many, fewer, c.requires.counts)

pub loop-superstep-preserved : goal.loop-superstep-preserved
loop-superstep-preserved g c =
    let start = c.args.self in
    let yielded = c.loop-superstep.yielded in
    let one = c.in-Some.superstep in
    let so_far = c.loop-superstep.invariant in
    let before = c.loop-superstep.part in
    let after = c.in_ok-part.part in
    let more = map-append (λ l. l.items) yielded (one ∷ []) in
    record {
      whole = append_assoc yielded (one ∷ []) c.next.new.self.rest.items ∙ ap (λ l. yielded ++ l) (sym c.in-Some.ensures.steps.0) ∙ so_far.whole;
      resumed = subst (λ l. IsResumed l start.part_run after.part_run) (sym more)
          (resumed_more start.part_run before.part_run after.part_run (map (λ l. l.items) yielded) one.items so_far.resumed c.in_ok-part.ensures.part_run);
      holds = λ job rows n p same held within are.
          on_advanced job rows n p before after (map (λ l. l.items) yielded) one.items (length yielded) (length (yielded ++ one ∷ []))
          (sym (length-map yielded (λ l. l.items))) (length_push yielded one) (so_far.holds job rows n p same held)
          (λ s. c.in_ok-part.ensures.holds job rows n p s same) within (sym more ∙ are);
    }

pub returns-clause-resumed : goal.returns-clause-resumed
returns-clause-resumed g c =
    let remaining = c.loop-superstep.superstep-iterator.rest in
    let all = moved_all c.loop-superstep.yielded (nil_from_length remaining.items (sym remaining.ok.0 ∙ c.in-None.ensures.steps.0)) c.loop-superstep.invariant.whole in
    subst (λ l. IsResumed (map (λ r. r.items) l) c.args.self.part_run c.loop-superstep.part.part_run) all c.loop-superstep.invariant.resumed

pub returns-clause-holds : goal.returns-clause-holds
returns-clause-holds g c job rows n p same held =
    let part = c.loop-superstep.part in
    let remaining = c.loop-superstep.superstep-iterator.rest in
    let all = moved_all c.loop-superstep.yielded (nil_from_length remaining.items (sym remaining.ok.0 ∙ c.in-None.ensures.steps.0)) c.loop-superstep.invariant.whole in
    subst (λ l. length l ≤ run_length job rows → map (λ r. r.items) l ≡ records_below job rows n p (length l)
    → HoldsShare job None rows n p (length l) part) all
    (c.loop-superstep.invariant.holds job rows n p same held)

pub returns-clause-again : goal.returns-clause-again
returns-clause-again g c job kept rows n p r before same held within recorded are =
    again job rows n p c.loop-superstep.part (map (λ r. r.items) c.args.records.items) (sym (length-map c.args.records.items (λ r. r.items)))
    (returns-clause-holds g c job rows n p same held) kept r before within recorded are

pub returns-in_err-part : goal.returns-in_err-part
returns-in_err-part g c =
    let none = c.from_residual.ensures.0 in
    let at = c.from_residual.result in
    record { resumed = IfOk-from_err at _ none; holds = IfOk-from_err at _ none; again = IfOk-from_err at _ none }
