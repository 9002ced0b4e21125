use Rattle.pg_checkpoint.specs.Reading.{AreParts, parts_coding}
use Rattle.pg_program.proofs.InTurn.{IsBehind}
use Rattle.pg_checkpoint.proofs.reading.Reader.records.Given as goal

abbrev pub invariant-loop-remaining : goal.invariant-loop-remaining
invariant-loop-remaining g l = IsBehind (AreParts g.V.Plain.is_value g.M.Plain.is_value) (parts_coding g.V.Coded.coding g.M.Coded.coding) l.count l.fn.self l.records l.remaining l.self

abbrev pub decreases-loop-remaining : goal.decreases-loop-remaining
decreases-loop-remaining g l = l.remaining
