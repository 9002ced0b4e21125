use Rattle.std.proofs.Common.{◌≡◌, pos, take}
use Rattle.std.specs.Int.{w64, int_wrapping_add}
use Rattle.std.specs.List.{fold}
use Rattle.pregeld_programs.proofs.folds.wrapping_sum.Given as goal

abbrev pub invariant-loop-message : goal.invariant-loop-message
invariant-loop-message l = l.sum ≡ fold (int_wrapping_add w64) (pos 0) (take l.message-index l.messages)
