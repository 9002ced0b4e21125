use Rattle.std.proofs.Common.{◌≡◌, drop}
use Rattle.std.specs.List.{list_all}
use Rattle.pg_stats.specs.Contributed.{contributes_alike}
use Rattle.pg_stats.proofs.gathering.contribute_alike.Given as goal

abbrev pub invariant-loop-id : goal.invariant-loop-id
invariant-loop-id g l =
    list_all (contributes_alike l.old l.new l.superstep) (drop l.id-index l.ids) ≡ list_all (contributes_alike l.old l.new l.superstep) l.ids
