use Rattle.std.proofs.Common.{◌≡◌, ◌+◌, length, map}
use Rattle.pg_import.specs.Import.{edges_from, followed_by, list_of, reading_of}
use Rattle.pg_import.specs.Text.{line_of, raw_lines, words_of}
use Rattle.pg_import.proofs.list.read_list.Given as goal

-- the edges so far and those of the lines that are left are those of the text
abbrev pub invariant-loop-unread : goal.invariant-loop-unread
invariant-loop-unread l =
    (l.number + length (raw_lines l.unread) ≡ length (raw_lines l.text))
    × (followed_by l.lines.items
    (edges_from (l.number + 1) (map (λ raw. reading_of (words_of (line_of raw))) (raw_lines l.unread))) ≡ list_of l.text)

abbrev pub decreases-loop-unread : goal.decreases-loop-unread
decreases-loop-unread l = length l.unread
