use Rattle.std.proofs.Common.{◌≡◌, ◌<◌, ℕ, pos, take, get_or, FitsSigned}
use Rattle.std.specs.Int.{w64}
use Rattle.std.specs.List.{fold}
use Rattle.pg_global.proofs.aggregator.gather.Given as goal

abbrev pub invariant-loop-contribution : goal.invariant-loop-contribution
invariant-loop-contribution g l = record {
  folded : l.gathered ≡ fold (g.A.Aggregator.operation l.aggregator) l.initial.gathered (take l.contribution-index l.contributions);
  fits : (k : ℕ) → k < l.contribution-index → FitsSigned w64 (get_or l.contributions k (pos 0));
}
