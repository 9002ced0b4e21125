use Rattle.std.proofs.Common.{◌≡◌, ◌++◌, drop}
use Rattle.pg_map.proofs.gather.Gathering.extend.Given as goal

abbrev pub invariant-loop-id : goal.invariant-loop-id
invariant-loop-id g l = l.self ++ drop l.id-index l.entries ≡ l.initial.self ++ l.entries
