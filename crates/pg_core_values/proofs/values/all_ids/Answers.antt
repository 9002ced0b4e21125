use Rattle.std.proofs.Common.{◌++◌, ap, sym, ◌∙◌}
use Rattle.std.proofs.lemmas.List.{append-nil}
use Rattle.pg_core_values.specs.Values.{ids_before, ids_of_part}
use Rattle.pg_core_values.proofs.ReadValues.{gathered_more}
use Rattle.pg_core_values.proofs.values.all_ids.Goals as goal
use Rattle.pg_core_values.proofs.values.all_ids.Goals.{in-Some+in_ok-add_ids, in_default}

pub loop-part-preserved : goal.loop-part-preserved
loop-part-preserved g c =
    let of = ids_of_part c.args.missing c.args.superstep in
    let before = c.loop-part.ids.items in
    gathered_more of c.args.parts.now c.loop-part.part-index c.loop-part-test.true c.part-item.is c.loop-part.invariant
    (elim c.match-part.branch [
      | in-Some+in_ok-add_ids w ↦ ap (λ v. v.items) w.ids-is ∙ w.in_ok-add_ids.ensures
          ∙ ap (λ t. before ++ ids_before c.args.missing c.args.superstep t) w.trace.ensures ∙ ap (λ p. before ++ of p) (sym w.in-Some.is)
      | in_default w ↦ ap (λ v. v.items) w.ids-is ∙ sym (append-nil before) ∙ ap (λ p. before ++ of p) (sym w.in_default.is)
    ])
