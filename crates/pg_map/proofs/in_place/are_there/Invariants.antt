use Rattle.std.proofs.Common.{drop}
use Rattle.pg_map.specs.Chunks.{AreThere}
use Rattle.pg_map.proofs.in_place.are_there.Given as goal

abbrev pub invariant-loop-id : goal.invariant-loop-id
invariant-loop-id g l = AreThere (drop l.id-index l.changes) l.entries → AreThere l.changes l.entries
