use Rattle.std.proofs.Common.{rules}
use Rattle.pregeld.proofs.Blocks.{next_of_read}
use Rattle.pregeld.proofs.block.next_line.Goals as goal

pub returns-in-Ok-clause-ok : goal.returns-in-Ok-clause-ok
returns-in-Ok-clause-ok g c lines there =
    let read = c.in-Ok.ensures in
    next_of_read (g.R.Read.remaining c.args.reader.now) (g.R.Read.remaining c.read_until.new.self) lines c.new-line.result.items
    c.read_until.new.buf.items c.in-Ok.field-0
    (search rules) there read.bytes read.rest (search rules) c.in-Ok.field-0-test.1
