use Rattle.std.proofs.Common.{◌≡◌, ◌⊎◌, None, inl, inr, ap, sym, ◌∙◌}
use Rattle.std.specs.Option.{option_copied, option_map}
use Rattle.std.proofs.lemmas.Result.{IfOk-weaker}
use Rattle.pg_model.specs.Superstep.{view_of}
use Rattle.pg_part.proofs.Both.{both_there, one_missing}
use Rattle.pg_part.proofs.WarmStep.{advanced_past_end_without, same_view_warm}
use Rattle.pg_part.proofs.part_run.PartRun.step_with.Goals as goal

pub returns-in-Some-clause-stepped : goal.returns-in-Some-clause-stepped
returns-in-Some-clause-stepped g c =
    let there = both_there c.args.old_logs c.args.step_input.old_view c.in-Some.old_logs c.in-Some.old_view (sym c.zip.ensures ∙ c.in-Some.is) in
    IfOk-weaker c.step_warm.result _ _
    (λ stepped h job kept rows n p s old_visible program combining holds within has bundled sees saw old.
    h job kept rows n p s program combining holds within has (c.as_slice.ensures.value ∙ bundled) sees
    (same_view_warm job kept n p s c.args.logs.now (option_copied c.args.old_logs) old_visible c.in-Some.old_logs.now c.in-Some.old_view
    (ap option_copied there.0) (sym saw ∙ there.1) old)) c.step_warm.ensures.stepped

pub returns-clause-stepped : goal.returns-clause-stepped
returns-clause-stepped g c =
    IfOk-weaker c.step_cold.result _ _
    (λ stepped h job kept rows n p s old_visible program combining holds within has bundled sees saw old.
    let missing : (option_copied c.args.old_logs ≡ None) ⊎ (option_map (view_of job.program.declared s) old_visible ≡ None) = elim
    (one_missing c.args.old_logs c.args.step_input.old_view (sym c.zip.ensures ∙ c.in-None.is)) [
      | inl e ↦ inl (ap option_copied e)
      | inr e ↦ inr (sym saw ∙ e)
    ] in
    h job kept rows n p s c.args.logs.now program combining holds
    (advanced_past_end_without job kept n p s c.args.logs.now (option_copied c.args.old_logs) old_visible missing old) within has
    (c.as_slice-in-None.ensures.value ∙ bundled) sees)
    c.step_cold.ensures.stepped
