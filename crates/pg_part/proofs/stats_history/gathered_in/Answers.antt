use Rattle.std.proofs.Common.{◌≡◌, ℕ, ℤ, List, [], ◌∷◌, arith, length, refl, sym, ◌∙◌}
use Rattle.pg_global.specs.Registry.{Registered}
use Rattle.pg_trace.specs.Handed.{contributions_of}
use Rattle.pg_stats.specs.GlobalStats.{aggregators_of}
use Rattle.pg_stats.specs.Stats.{gathered_afresh}
use Rattle.pg_trace.specs.Trace.{records_of}
use Rattle.pg_part.proofs.stats_history.gathered_in.Goals as goal

none_gathered : (registry : Registered) (contributions : List (ℕ × ℤ)) → length registry ≡ 0
    → [] ≡ gathered_afresh 0 (aggregators_of registry) contributions
none_gathered [] contributions none = refl
none_gathered (r ∷ registry) contributions none = absurd (omega (arith, none))

pub returns-then-len-eq0 : goal.returns-then-len-eq0
returns-then-len-eq0 g c =
    c.new.ensures
    ∙ none_gathered c.args.registry.now (contributions_of (records_of c.args.superstep c.args.trace.now)) (sym c.len.ensures.value ∙ c.if-len-eq0.true)
