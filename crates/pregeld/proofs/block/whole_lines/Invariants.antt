use Rattle.std.proofs.Common.{◌≡◌, ◌≤◌, length, take}
use Rattle.std.specs.Io.{IsEmptyOrEndsWith}
use Rattle.std.specs.List.{count_by}
use Rattle.memchr.specs.Find.{places_between}
use Rattle.pg_import.proofs.TextLines.{is_line_feed}
use Rattle.pregeld.proofs.block.whole_lines.Given as goal

-- so many lines were found, each with its line feed, and the line feeds after them are left
abbrev pub invariant-loop-lines : goal.invariant-loop-lines
invariant-loop-lines l = record {
  within : l.bytes ≤ length l.text;
  so_far : count_by is_line_feed (take l.bytes l.text) ≡ l.lines;
  ends : IsEmptyOrEndsWith (take l.bytes l.text) 10;
  unread : l.feeds ≡ places_between is_line_feed l.text l.bytes (length l.text);
}
