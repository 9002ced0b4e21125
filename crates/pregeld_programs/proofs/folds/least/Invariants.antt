use Rattle.std.proofs.Common.{◌≡◌, take}
use Rattle.pg_model.specs.Programs.{least_of}
use Rattle.pregeld_programs.proofs.folds.least.Given as goal

abbrev pub invariant-loop-message : goal.invariant-loop-message
invariant-loop-message l = l.least ≡ least_of l.own (take l.message-index l.messages)
