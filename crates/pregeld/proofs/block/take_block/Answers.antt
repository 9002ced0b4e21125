use Rattle.std.proofs.Common.{◌<◌, ◌+◌, drop, subst, arith}
use Rattle.std.proofs.lemmas.Result.{IfOk-weaker}
use Rattle.pregeld.specs.Reading.{TakesLines, lines_left}
use Rattle.pregeld.proofs.Blocks.{fewer_lines, more_taken, rest_skipped}
use Rattle.pregeld.proofs.block.take_block.Goals as goal

pub loop-taken-preserved : goal.loop-taken-preserved
loop-taken-preserved g c = record {
  within = omega (arith, c.in_ok-held.ensures.within);
  taken = λ lines there.
      let so_far = c.loop-taken.invariant.taken lines there in
      more_taken c.loop-taken.taken c.in_ok-held.held lines c.args.text.now.items c.loop-taken.text.items c.take_held.new.text.items
      (lines_left (g.R.Read.remaining c.take_held.new.reader)) so_far.0 so_far.1 (c.in_ok-held.ensures.lines (drop c.loop-taken.taken lines) so_far.2);
}

pub loop-taken-preserved-in-Whole : goal.loop-taken-preserved-in-Whole
loop-taken-preserved-in-Whole g c = record {
  within = omega (arith, c.if-held-eq0.true);
  taken = λ lines there.
      let before = c.loop-taken.invariant.taken lines there in
      let so_far = more_taken c.loop-taken.taken c.in_ok-held.held lines c.args.text.now.items c.loop-taken.text.items c.take_held.new.text.items
      (lines_left (g.R.Read.remaining c.take_held.new.reader)) before.0 before.1 (c.in_ok-held.ensures.lines (drop c.loop-taken.taken lines) before.2) in
      let n = c.loop-taken.taken + c.in_ok-held.held in
      let unread = lines_left (g.R.Read.remaining c.take_line.new.reader) in
      let taken = subst (λ b. TakesLines 1 b (drop n lines) c.take_held.new.text.items c.take_line.new.text.items unread) c.in-Whole.is
      (c.in_ok-take_line.ensures.ok (drop n lines) so_far.2) in
      more_taken n 1 lines c.args.text.now.items c.take_held.new.text.items c.take_line.new.text.items unread so_far.0 so_far.1 taken;
}

pub returns-in-CutShort-clause-ok : goal.returns-in-CutShort-clause-ok
returns-in-CutShort-clause-ok g c lines there =
    let before = c.loop-taken.invariant.taken lines there in
    let so_far = more_taken c.loop-taken.taken c.in_ok-held.held lines c.args.text.now.items c.loop-taken.text.items c.take_held.new.text.items
    (lines_left (g.R.Read.remaining c.take_held.new.reader)) before.0 before.1 (c.in_ok-held.ensures.lines (drop c.loop-taken.taken lines) before.2) in
    let n = c.loop-taken.taken + c.in_ok-held.held in
    let unread = lines_left (g.R.Read.remaining c.take_line.new.reader) in
    let taken = subst (λ b. TakesLines 1 b (drop n lines) c.take_held.new.text.items c.take_line.new.text.items unread) c.in-CutShort.is
    (c.in_ok-take_line.ensures.ok (drop n lines) so_far.2) in
    let more : n < c.args.count = omega arith in
    fewer_lines n c.args.count lines unread more taken.0 taken.1

pub returns-in-NoMemory-clause-ok : goal.returns-in-NoMemory-clause-ok
returns-in-NoMemory-clause-ok g c =
    let unread = lines_left (g.R.Read.remaining c.take_line.new.reader) in
    let n = c.loop-taken.taken + c.in_ok-held.held in
    let more : n < c.args.count = omega arith in
    IfOk-weaker c.skip_lines.result _ _ (λ block skipped lines there.
    let before = c.loop-taken.invariant.taken lines there in
    let so_far = more_taken c.loop-taken.taken c.in_ok-held.held lines c.args.text.now.items c.loop-taken.text.items c.take_held.new.text.items
    (lines_left (g.R.Read.remaining c.take_held.new.reader)) before.0 before.1 (c.in_ok-held.ensures.lines (drop c.loop-taken.taken lines) before.2) in
    let taken = subst (λ b. TakesLines 1 b (drop n lines) c.take_held.new.text.items c.take_line.new.text.items unread) c.in-NoMemory.is
    (c.in_ok-take_line.ensures.ok (drop n lines) so_far.2) in
    rest_skipped block n c.args.count lines c.args.text.now.items c.take_line.new.text.items (lines_left (g.R.Read.remaining c.skip_lines.new.reader))
    more taken.0 (skipped (drop 1 (drop n lines)) taken.1)) c.skip_lines.ensures.ok
