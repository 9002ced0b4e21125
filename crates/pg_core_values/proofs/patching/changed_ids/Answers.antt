use Rattle.std.proofs.Common.{◌++◌, Some, ap, sym, ◌∙◌}
use Rattle.std.proofs.lemmas.List.{append-nil}
use Rattle.pg_core_values.specs.Values.{apart_in}
use Rattle.pg_core_values.proofs.ReadValues.{gathered_more}
use Rattle.pg_core_values.proofs.patching.changed_ids.Goals as goal
use Rattle.pg_core_values.proofs.patching.changed_ids.Goals.{in-Some+in_ok-add_apart, in_default}

pub loop-part-preserved : goal.loop-part-preserved
loop-part-preserved g c =
    let s = c.args.superstep in
    let of = apart_in s c.args.old in
    let before = c.loop-part.ids.items in
    gathered_more of c.args.parts.now c.loop-part.part-index c.loop-part-test.true c.part-item.is c.loop-part.invariant
    (elim c.match-part.branch [
      | in-Some+in_ok-add_apart w ↦ ap (λ v. v.items) w.ids-is ∙ w.in_ok-add_apart.ensures
          ∙ ap (λ n. before ++ apart_in s n (Some w.in-Some.part)) c.in_ok-old.ensures ∙ ap (λ p. before ++ of p) (sym w.in-Some.is)
      | in_default w ↦ ap (λ v. v.items) w.ids-is ∙ sym (append-nil before) ∙ ap (λ p. before ++ of p) (sym w.in_default.is)
    ])
