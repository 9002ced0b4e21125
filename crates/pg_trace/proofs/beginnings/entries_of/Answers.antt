use Rattle.std.proofs.Common.{◌++◌, ◌∷◌, [], ap, append_assoc, sym, ◌∙◌}
use Rattle.std.proofs.lemmas.List.{map-append, nil_from_length}
use Rattle.std.proofs.lemmas.Result.{IfOk-from_err}
use Rattle.pg_trace.specs.Beginning.{by_id}
use Rattle.pg_map.proofs.Moved.{moved_all}
use Rattle.pg_trace.proofs.beginnings.entries_of.Goals as goal

pub loop-state-preserved : goal.loop-state-preserved
loop-state-preserved g c =
    let before = c.loop-state.entries.items in
    let yielded = c.loop-state.yielded in
    let state = c.in-Some.state in
    record {
      so_far = c.in_ok-push.ensures.items ∙ ap (λ x. before ++ (state.id, x) ∷ []) c.in_ok-of.ensures
          ∙ ap (λ l. l ++ (state.id, state) ∷ []) c.loop-state.invariant.so_far ∙ sym (map-append (λ x. (x.id, x)) yielded (state ∷ []));
      whole = append_assoc yielded (state ∷ []) c.next.new.self.rest.items
          ∙ ap (λ l. yielded ++ l) (sym c.in-Some.ensures.steps.0) ∙ c.loop-state.invariant.whole;
    }

pub loop-state-init : goal.loop-state-init
loop-state-init g c = record { so_far = c.in_ok-entries.ensures.items; whole = c.into_iter-state-iterator.ensures.into_iter_gives.0 }

pub returns : goal.returns
returns g c =
    let produced = c.loop-state.state-iterator.rest in
    c.loop-state.invariant.so_far
    ∙ ap by_id (moved_all c.loop-state.yielded (nil_from_length produced.items (sym produced.ok.0 ∙ c.in-None.ensures.steps.0)) c.loop-state.invariant.whole)

pub returns-in_err-entries : goal.returns-in_err-entries
returns-in_err-entries g c = IfOk-from_err c.from_residual.result _ c.from_residual.ensures.0

pub returns-in_err-of : goal.returns-in_err-of
returns-in_err-of g c = IfOk-from_err c.from_residual-in_err-of.result _ c.from_residual-in_err-of.ensures.0

pub returns-in_err-push : goal.returns-in_err-push
returns-in_err-push g c = IfOk-from_err c.from_residual-in_err-push.result _ c.from_residual-in_err-push.ensures.0
