use Rattle.std.proofs.Common.{◌≡◌, ◌-◌, ◌≤◌, ℕ, List, Some}
use Rattle.pregeld.specs.Reading.{TakesLines, lines_left}
use Rattle.pregeld.specs.declared.block.Block.TheVariants.{Whole}
use Rattle.pregeld.proofs.block.take_block.Given as goal

-- as many lines as were counted have come onto the text
abbrev pub invariant-loop-taken : goal.invariant-loop-taken
invariant-loop-taken g l = record {
  within : l.taken ≤ l.count;
  taken : (lines : List (List ℕ)) → lines_left (g.R.Read.remaining l.fn.reader) ≡ Some lines → TakesLines l.taken Whole lines l.fn.text.items l.text.items
      (lines_left (g.R.Read.remaining l.reader));
}

abbrev pub decreases-loop-taken : goal.decreases-loop-taken
decreases-loop-taken g l = l.count - l.taken
