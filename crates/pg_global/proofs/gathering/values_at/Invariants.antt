use Rattle.std.proofs.Common.{◌≡◌, take}
use Rattle.pg_model.specs.Superstep.{at_place}
use Rattle.pg_global.proofs.gathering.values_at.Given as goal

abbrev pub invariant-loop-contribution : goal.invariant-loop-contribution
invariant-loop-contribution l = l.values.items ≡ at_place l.place (take l.contribution-index l.contributions)
