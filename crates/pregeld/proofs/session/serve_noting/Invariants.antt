use Rattle.std.proofs.Common.{◌≡◌, ℕ, List, Some}
use Rattle.pregeld.specs.Reading.{lines_left}
use Rattle.pregeld.proofs.Serving.{Midway}
use Rattle.pregeld.proofs.session.serve_noting.Given as goal

-- what was read so far was answered, and the rest is left
abbrev pub invariant-loop-turn : goal.invariant-loop-turn
invariant-loop-turn g l =
    (input : List ℕ) → g.R.Read.remaining l.fn.reader ≡ Some input
    → Midway input l.fn.service (record { service = l.service; session_state = l.session_state }) l.number (lines_left (g.R.Read.remaining l.reader))
    (g.W.Write.contents l.fn.writer) (g.W.Write.contents l.writer)
