use Rattle.std.proofs.Common.{◌≡◌, ℕ, Bool, not, cond, List, [], ◌∷◌, ◌++◌, map, ap, sym, ◌∙◌}
use Rattle.std.proofs.lemmas.List.{append-nil, take_all}
use Rattle.pg_map.proofs.Filling.{joined_more}
use Rattle.pg_model.specs.declared.record.Record.{Record}
use Rattle.pg_trace_records.specs.Records.{unhalted_after}
use Rattle.pg_trace_records.proofs.Changed.{unhalted_after-append}
use Rattle.pg_trace_records.proofs.records.unhalted_among.Goals.{then-not-halted+in_ok-push, else-not-halted}
use Rattle.pg_trace_records.proofs.records.unhalted_among.Goals as goal

pub loop-id-preserved : goal.loop-id-preserved
loop-id-preserved g c =
    let id = c.loop-id-item.result.0 in
    let given = c.loop-id-item.result.1 in
    let before = c.loop-id.unhalted.items in
    let after = c.if-not-halted.unhalted.items in
    let with : Bool → List ℕ = λ b. before ++ map (λ (r : ℕ × Record g.row.V.Denot g.row.M.Denot). r.0) (cond (not b) ((id, given) ∷ []) []) in
    let added : after ≡ with given.halted =
    elim c.if-not-halted.branch [
      | then-not-halted+in_ok-push w ↦
          let same : after ≡ w.push.new.self.items = λ i. (w.unhalted-is i).items in
          same ∙ w.in_ok-push.ensures.items ∙ sym (ap with (sym c.halted.ensures ∙ w.if-not-halted.true))
      | else-not-halted w ↦
          let same : after ≡ before = λ i. (w.unhalted-is i).items in
          same ∙ sym (append-nil before) ∙ sym (ap with (sym c.halted.ensures ∙ w.if-not-halted.false))
    ] in
    joined_more unhalted_after unhalted_after-append c.args.records.now c.loop-id.id-index c.loop-id-test.true c.loop-id-item.is c.loop-id.invariant added

pub returns : goal.returns
returns g c = c.loop-id.invariant ∙ ap unhalted_after (take_all c.loop-id.id-index c.args.records.now c.loop-id-test.false)
