use Rattle.std.proofs.Common.{◌≡◌, ℕ, ℤ, List, ◌++◌, take}
use Rattle.std.specs.List.{enumerate_from}
use Rattle.pg_model.specs.Superstep.{gathered_from}
use Rattle.pg_stats.specs.GlobalStats.{aggregators_of}
use Rattle.pg_stats.proofs.global_stats.aggregate_all.Given as goal

abbrev pub invariant-loop-place : goal.invariant-loop-place
invariant-loop-place l =
    (visible : List ℤ) (contributed : List (ℕ × ℤ))
    → l.initial.gathered.items ≡ gathered_from 0 (aggregators_of l.registry) visible contributed
    → l.gathered.items ≡ gathered_from 0 (aggregators_of l.registry) visible (contributed ++ enumerate_from 0 (take l.place l.values))
