use Rattle.std.proofs.Common.{ℕ, get_or, ap, sym, ◌∙◌, subst}
use Rattle.std.specs.Option.{IsSome, option_copied}
use Rattle.pg_core.specs.Progress.{IsPartAt, part_at}
use Rattle.pg_core.proofs.Parts.{here_is}
use Rattle.pg_core.proofs.running.Core.part.Goals as goal

pub returns-clause-at : goal.returns-clause-at
returns-clause-at g c =
    let parts = c.self.inside.parts.items in
    let some = subst (λ core. IsSome (part_at c.args.partition core)) (sym c.self.view_is) c.requires in
    let here =
    here_is parts c.args.partition c.index.result.now c.unwrap.result.now some (c.index.ensures
    ∙ ap (λ (p : ℕ). get_or parts p c.index.result.now) c.number.ensures) (sym c.as_ref.ensures.value
    ∙ ap option_copied c.unwrap.ensures) in
    subst (λ core. IsPartAt core.limits.partitions core.state c.args.partition c.unwrap.result.now) c.self.view_is
    (c.self.invariant.here c.args.partition c.unwrap.result.now here)
