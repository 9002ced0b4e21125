use Rattle.std.proofs.Common.{sym, ◌∙◌}
use Rattle.pg_part_compute.proofs.States.{same_state}
use Rattle.pg_part_compute.proofs.diverged.is_same_state.Goals as goal

pub returns-then-is_same_value-clause-eq_is_sound : goal.returns-then-is_same_value-clause-eq_is_sound
returns-then-is_same_value-clause-eq_is_sound g c h =
    same_state c.args.old.now c.args.new.now
    (sym c.value.ensures ∙ (c.is_same_value.ensures.eq_is_sound c.if-is_same_value.true ∙ c.value-2.ensures))
    (sym c.has_same_rest.ensures ∙ h)
