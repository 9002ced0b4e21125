use Rattle.std.proofs.Common.{ap, refl, ◌++◌, ◌∙◌}
use Rattle.std.proofs.lemmas.List.{take_all}
use Rattle.pg_map.proofs.Filling.{joined_after}
use Rattle.pg_trace_records.proofs.records.add_all.Goals as goal

pub loop-contribution-preserved : goal.loop-contribution-preserved
loop-contribution-preserved c =
    joined_after (λ l. l) (λ xs ys. refl) c.args.all.now.items c.args.more.now c.loop-contribution.contribution-index c.loop-contribution-test.true
    c.contribution-item.is c.loop-contribution.invariant c.in_ok-push.ensures.items

pub returns : goal.returns
returns c =
    c.loop-contribution.invariant
    ∙ ap (λ l. c.args.all.now.items ++ l) (take_all c.loop-contribution.contribution-index c.args.more.now c.loop-contribution-test.false)
