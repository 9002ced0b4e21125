use Rattle.std.proofs.Common.{◌≡◌, true}
use Rattle.std.specs.Char.{is_ascii}
use Rattle.std.specs.List.{list_all}
use Rattle.std.specs.Str.{IsAscii}
use Rattle.std.proofs.lemmas.List.Elements.{All-rest, All-same}
use Rattle.pg_import.specs.Text.{words_of}
use Rattle.pregeld_commands.proofs.AsciiWords.{words-ascii}
use Rattle.pregeld_commands.proofs.command.command_of.Goals as goal

pub named-requires : goal.named-requires
named-requires c =
    let line = c.bare_line-line.result.now in
    let ascii : list_all is_ascii line ≡ true = cc in
    let all = All-same IsAscii c.new-words.result (words_of line) c.new-words.ensures (words-ascii line ascii) in
    All-rest IsAscii c.in-Some.first.now c.next.new.self c.new-words.result c.in-Some.ensures.steps all
