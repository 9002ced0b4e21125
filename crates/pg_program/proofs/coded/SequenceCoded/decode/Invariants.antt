use Rattle.std.proofs.Common.{◌≤◌, length}
use Rattle.pg_program.proofs.InTurn.{IsBehind}
use Rattle.pg_program.proofs.coded.SequenceCoded.decode.Given as goal

abbrev pub invariant-loop-remaining : goal.invariant-loop-remaining
invariant-loop-remaining g l = record {
  shorter : length l.rest ≤ length l.initial.rest;
  so_far : IsBehind g.T.Plain.is_value g.T.Coded.coding l.count l.initial.rest l.items l.remaining l.rest;
}

abbrev pub decreases-loop-remaining : goal.decreases-loop-remaining
decreases-loop-remaining g l = l.remaining
