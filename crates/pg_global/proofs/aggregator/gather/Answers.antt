use Rattle.std.proofs.Common.{sym, ◌∙◌, All, FitsSigned, pos, below_more, arith, rules}
use Rattle.std.specs.Int.{w64}
use Rattle.std.proofs.lemmas.Grind.{common_steps}
use Rattle.std.proofs.lemmas.Int.{to_z-of_z}
use Rattle.std.proofs.lemmas.List.{get_or_default}
use Rattle.pg_model.proofs.LawsFolds.{fold-IsPermutation}
use Rattle.pg_global.proofs.aggregator.gather.Goals as goal

pub loop-contribution-preserved : goal.loop-contribution-preserved
loop-contribution-preserved g c = record {
  folded = grind (arith, common_steps, to_z-of_z);
  fits = below_more _ _ c.loop-contribution.invariant.fits (search rules);
}

pub returns-clause-value : goal.returns-clause-value
returns-clause-value g c = grind (arith, common_steps, to_z-of_z)

pub returns-clause-order : goal.returns-clause-order
returns-clause-order g c =
    let aggregator = c.args.aggregator.now in
    let contributions = c.args.contributions.now in
    let fit : All (FitsSigned w64) contributions =
    λ k d h. rw (get_or_default contributions k d (pos 0) h) (c.loop-contribution.invariant.fits k (omega arith)) in
    λ others moved. returns-clause-value g c
    ∙ sym (fold-IsPermutation (g.met.A.Aggregator.lawful aggregator) c.args.from contributions others c.ranges.from fit moved)
