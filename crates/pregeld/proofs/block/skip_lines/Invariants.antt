use Rattle.std.proofs.Common.{◌≡◌, ℕ, List, Some}
use Rattle.pregeld.specs.Reading.{SkipsLines, lines_left}
use Rattle.pregeld.specs.declared.block.Block.TheVariants.{NoMemory}
use Rattle.pregeld.proofs.block.skip_lines.Given as goal

-- as many lines as were counted were set aside
abbrev pub invariant-loop-skipped : goal.invariant-loop-skipped
invariant-loop-skipped g l =
    (lines : List (List ℕ)) → lines_left (g.R.Read.remaining l.fn.reader) ≡ Some lines → SkipsLines l._skipped NoMemory lines
    (lines_left (g.R.Read.remaining l.reader))
