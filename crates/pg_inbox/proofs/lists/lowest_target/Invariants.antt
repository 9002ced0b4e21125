use Rattle.std.proofs.Common.{map, take}
use Rattle.pg_inbox.specs.Merged.{IsLowestOf}
use Rattle.pg_inbox.proofs.lists.lowest_target.Given as goal

abbrev pub invariant-loop-list : goal.invariant-loop-list
invariant-loop-list g l = IsLowestOf (map (λ l. l.now) (take l.list-index l.lists)) l.lowest
