use Rattle.std.proofs.Common.{◌∷◌, sym}
use Rattle.std.specs.Str.{IsAscii}
use Rattle.std.proofs.lemmas.List.Elements.{All-head, All-same}
use Rattle.std.proofs.lemmas.Str.{IsUtf8-from_ascii}
use Rattle.pregeld_commands.proofs.command.agg_of.Goals as goal

-- a word of ASCII is a text
pub returns-in_default-from_utf8 : goal.returns-in_default-from_utf8
returns-in_default-from_utf8 c =
    let name = c.in-Some.name.now in
    let rest = c.next.new.self in
    let ascii = All-head IsAscii name rest (All-same IsAscii (name ∷ rest) c.args.words (sym c.in-Some.ensures.steps) c.requires) in
    absurd (c.in_default-from_utf8.ensures.cases.0 (IsUtf8-from_ascii name ascii))
