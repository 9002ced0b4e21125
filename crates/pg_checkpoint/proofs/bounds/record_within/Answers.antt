use Rattle.std.proofs.Common.{◌∙◌, ap, sym, true≢false}
use Rattle.std.specs.List.{list_all}
use Rattle.pg_model.specs.Job.{has_place}
use Rattle.pg_checkpoint.proofs.bounds.record_within.Goals as goal

pub returns-then-not-are_declared : goal.returns-then-not-are_declared
returns-then-not-are_declared g c = λ may.
    true≢false (sym may.places ∙ ap (list_all (λ x. has_place c.args.bounds.now.writes x.0)) (sym c.as_slice.ensures)
    ∙ ap (λ w. list_all (λ x. has_place w x.0) c.as_slice.result.now) (sym c.writes.ensures) ∙ sym c.are_declared.ensures ∙ c.if-not-are_declared.true)
