use Rattle.std.proofs.Common.{◌≡◌, ℕ, ◌+◌, ◌<◌, ◌^◌, ◌++◌, cond, [], ◌∷◌, append_assoc, map, ap, ap₂, sym, ◌∙◌, subst, arith}
use Rattle.std.specs.List.{count_by, flat_map}
use Rattle.pg_model.specs.Superstep.{capped}
use Rattle.pg_model.specs.declared.view.View.{View}
use Rattle.pg_part_compute.specs.Found.{change_of, is_run}
use Rattle.std.proofs.lemmas.List.{map-append, nil_from_length}
use Rattle.pg_part_routing.proofs.Listing.{all_yielded, count_by-push, flat_map-push, more_calls}
use Rattle.pg_program.specs.Context.{ShowsDeclared}
use Rattle.pg_part_compute.proofs.StepDeltas.{capped_fits, capped_same}
use Rattle.pg_part_compute.proofs.execution.execute_pairs.Goals as goal

pub loop-vertex_pair-preserved : goal.loop-vertex_pair-preserved
loop-vertex_pair-preserved g c =
    let program = g.P.Computation.program c.args.program.now in
    let changes : View → _ = λ v. change_of g.P.Value.PartialEq.eq g.P.Message.PartialEq.eq program v c.args.same_view in
    let runs : View → _ = λ v. is_run g.P.Value.PartialEq.eq g.P.Message.PartialEq.eq program v c.args.same_view in
    let before = c.loop-vertex_pair.yielded in
    let one = c.in-Some.vertex_pair in
    let now = c.loop-vertex_pair.invariant in
    let step_delta = c.in_ok-execute_one.ensures in
    record {
      dirty_ids = c.in_ok-push.ensures.items ∙ ap (λ l. l ++ one.id ∷ []) now.dirty_ids ∙ sym (map-append (λ c. c.id) before (one ∷ []));
      changes = step_delta.changes ∙ ap₂ ◌++◌ now.changes (ap (λ v. changes v one) now.view) ∙ sym (flat_map-push (changes c.args.step_context.view) before one);
      view = step_delta.view ∙ now.view;
      ready = step_delta.ready;
      meter = step_delta.meter
          ∙ ap₂ (λ m v. capped (m + cond (runs v one) 1 0)) now.meter now.view
          ∙ more_calls c.args.step_context.meter (count_by (runs c.args.step_context.view) before) (cond (runs c.args.step_context.view one) 1 0)
          ∙ ap (λ n. capped (c.args.step_context.meter + n)) (sym (count_by-push (runs c.args.step_context.view) before one));
      whole =
          append_assoc before (one ∷ []) c.next.new.self.rest.items
          ∙ (ap (λ l. before ++ l) (sym c.in-Some.ensures.steps.0) ∙ now.whole);
    }

pub returns : goal.returns
returns g c =
    let program = g.P.Computation.program c.args.program.now in
    let value_eq = g.P.Value.PartialEq.eq in
    let message_eq = g.P.Message.PartialEq.eq in
    let rest = c.loop-vertex_pair.vertex_pair-iterator.rest in
    let none : rest.items ≡ [] = nil_from_length rest.items (omega (arith, rest.ok.0, c.in-None.ensures.steps.0)) in
    let all = all_yielded c.loop-vertex_pair.yielded rest.items c.args.vertex_pairs.items c.loop-vertex_pair.invariant.whole none in
    record {
      dirty_ids = c.into_step_delta.ensures.dirty_ids ∙ c.loop-vertex_pair.invariant.dirty_ids ∙ ap (map (λ c. c.id)) all;
      changes = c.into_step_delta.ensures.changes ∙ c.loop-vertex_pair.invariant.changes
          ∙ ap (flat_map (change_of value_eq message_eq program c.args.step_context.view c.args.same_view)) all;
      meter = c.into_step_delta.ensures.meter ∙ c.loop-vertex_pair.invariant.meter
          ∙ ap (λ l. capped (c.args.step_context.meter + count_by (is_run value_eq message_eq program c.args.step_context.view c.args.same_view) l)) all;
    }

pub loop-vertex_pair-init : goal.loop-vertex_pair-init
loop-vertex_pair-init g c = record {
  dirty_ids = c.in_ok-dirty_ids.ensures.items;
  changes = c.in_ok-executor.ensures.changes;
  view = c.in_ok-executor.ensures.view;
  ready = c.in_ok-executor.ensures.ready;
  meter = c.in_ok-executor.ensures.meter ∙ capped_same c.args.step_context.meter c.requires.fits;
  whole = c.into_iter-vertex_pair-iterator.ensures.into_iter_gives.0;
}

pub execute_one-requires-clause-shown : goal.execute_one-requires-clause-shown
execute_one-requires-clause-shown g c κs within =
    subst (ShowsDeclared (g.P.Computation.program c.args.program.now).declared) (sym c.loop-vertex_pair.invariant.view) c.requires.shown

pub execute_one-requires-clause-fits : goal.execute_one-requires-clause-fits
execute_one-requires-clause-fits g c κs within = subst (λ (k : ℕ). k < 2 ^ 64) (sym c.loop-vertex_pair.invariant.meter) (capped_fits _)
