use Rattle.std.proofs.Common.{◌≡◌, ℕ, ◌++◌, ◌<◌, [], drop, get_or, pos, FitsSigned, w64}
use Rattle.pg_model.specs.Superstep.{gathered_from}
use Rattle.pg_stats.specs.GlobalStats.{aggregators_of}
use Rattle.pg_stats.proofs.global_stats.GlobalStats.new.Given as goal

abbrev pub invariant-loop-place : goal.invariant-loop-place
invariant-loop-place l = record {
  started : l.gathered ++ gathered_from l.place (aggregators_of (drop l.place l.registry)) (drop l.place l.visible) []
      ≡ gathered_from 0 (aggregators_of l.registry) l.visible [];
  fits : (k : ℕ) → k < l.place → FitsSigned w64 (get_or l.visible k (pos 0));
}
