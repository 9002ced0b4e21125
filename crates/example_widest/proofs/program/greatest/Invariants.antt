use Rattle.std.proofs.Common.{◌≡◌, take}
use Rattle.pg_model.specs.Programs.{greatest_of}
use Rattle.example_widest.proofs.program.greatest.Given as goal

abbrev pub invariant-loop-message : goal.invariant-loop-message
invariant-loop-message l = l.greatest ≡ greatest_of l.own (take l.message-index l.messages)
