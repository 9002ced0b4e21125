use Rattle.std.proofs.Common.{◌≡◌, ◌++◌, take, subst, rules}
use Rattle.std.specs.Io.BufRead.{FillKeeps}
use Rattle.std.proofs.BufReadLemmas.{Consumes_shown}
use Rattle.pregeld.proofs.Blocks.{take_of_held}
use Rattle.pregeld.proofs.block.take_held.Goals as goal

pub returns-clause-lines : goal.returns-clause-lines
returns-clause-lines g c lines there =
    let held = c.in-Ok.bytes.now in
    let front = c.whole_lines-front in
    let rested = c.fill_buf.follows.lender-at-none in
    let unread = g.R.Read.remaining c.consume.new.self in
    let filled = subst (FillKeeps _ (g.R.Read.remaining rested) (g.R.BufRead.consumable_len rested)) c.in-Ok.is c.fill_buf.follows.holds-at-none in
    let moved = Consumes_shown _ _ unread _ held front.result.bytes front.ensures.bound c.in-Ok.ensures.front c.in-Ok.ensures.end filled.0 filled.1
    c.consume.ensures.bytes in
    let onto : c.extend_from_slice.new.self.items ≡ c.args.text.now.items ++ take front.result.bytes held = search rules in
    take_of_held _ unread lines c.args.text.now.items c.extend_from_slice.new.self.items (take front.result.bytes held) front.result.lines there moved.0
    front.ensures.lines onto
