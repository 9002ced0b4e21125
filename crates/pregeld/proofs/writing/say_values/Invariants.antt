use Rattle.std.proofs.Common.{flat_map, take}
use Rattle.std.specs.Io.KnownBytes.{Appends}
use Rattle.pregeld.specs.Reply.{line_of_value}
use Rattle.pregeld.proofs.writing.say_values.Given as goal

-- the lines of the values so far were written
abbrev pub invariant-loop-id : goal.invariant-loop-id
invariant-loop-id g l = Appends (g.W.Write.contents l.fn.writer) (g.W.Write.contents l.writer) (flat_map line_of_value (take l.id-index l.values))
