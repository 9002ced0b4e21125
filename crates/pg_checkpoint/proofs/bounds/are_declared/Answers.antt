use Rattle.std.proofs.Common.{◌+◌, ◌&&◌, Bool, ap, drop, sym, ◌∙◌}
use Rattle.std.specs.List.{list_all}
use Rattle.pg_model.specs.Job.{has_place}
use Rattle.pg_checkpoint.proofs.PartRunState.{from_here}
use Rattle.pg_checkpoint.proofs.bounds.are_declared.Goals as goal

pub loop-contribution-preserved : goal.loop-contribution-preserved
loop-contribution-preserved c =
    let xs = c.args.contributed.now in
    let i = c.loop-contribution.contribution-index in
    sym (ap (λ (b : Bool). b && list_all (λ x. has_place c.args.writes x.0) (drop (i + 1) xs)) (sym c.is_declared.ensures ∙ c.if-not-is_declared.false))
    ∙ sym (from_here (λ x. has_place c.args.writes x.0) xs i c.contribution-item.result c.loop-contribution-test.true c.contribution-item.is)
    ∙ c.loop-contribution.invariant

pub returns-then-not-is_declared : goal.returns-then-not-is_declared
returns-then-not-is_declared c =
    let xs = c.args.contributed.now in
    let i = c.loop-contribution.contribution-index in
    sym (sym c.loop-contribution.invariant
    ∙ from_here (λ x. has_place c.args.writes x.0) xs i c.contribution-item.result c.loop-contribution-test.true c.contribution-item.is
    ∙ ap (λ (b : Bool). b && list_all (λ x. has_place c.args.writes x.0) (drop (i + 1) xs)) (sym c.is_declared.ensures ∙ c.if-not-is_declared.true))
