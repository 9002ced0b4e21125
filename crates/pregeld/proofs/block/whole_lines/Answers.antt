use Rattle.std.proofs.Common.{◌≡◌, ◌+◌, take, ap, ◌∙◌, arith}
use Rattle.pregeld.proofs.WholeLines.{ends_at_feed, length-whole_lines, next_left, none_left}
use Rattle.pregeld.proofs.block.whole_lines.Goals as goal

pub returns-in_default-clause-lines : goal.returns-in_default-clause-lines
returns-in_default-clause-lines c =
    let front = take c.loop-lines.bytes c.args.text.now in
    (length-whole_lines front c.loop-lines.invariant.ends ∙ c.loop-lines.invariant.so_far, c.loop-lines.invariant.ends)

pub returns-clause-lines : goal.returns-clause-lines
returns-clause-lines c =
    let front = take c.loop-lines.bytes c.args.text.now in
    let all : c.loop-lines.lines ≡ c.args.count = omega arith in
    (length-whole_lines front c.loop-lines.invariant.ends ∙ (c.loop-lines.invariant.so_far ∙ all), c.loop-lines.invariant.ends)

pub returns-in_default-clause-most : goal.returns-in_default-clause-most
returns-in_default-clause-most c =
    let so_far = c.loop-lines.invariant in
    let all = none_left c.args.text.now c.loop-lines.feeds c.loop-lines.bytes so_far.within so_far.unread c.in_default.ensures.steps.0 in
    omega (arith, all, so_far.so_far)

pub overflow_add-bytes : goal.overflow_add-bytes
overflow_add-bytes c =
    let so_far = c.loop-lines.invariant in
    let next = next_left c.args.text.now c.loop-lines.feeds c.next.new.self c.loop-lines.bytes c.in-Some.at so_far.within so_far.unread c.in-Some.ensures.steps in
    omega (arith, next.within)

pub loop-lines-preserved : goal.loop-lines-preserved
loop-lines-preserved c =
    let so_far = c.loop-lines.invariant in
    let next = next_left c.args.text.now c.loop-lines.feeds c.next.new.self c.loop-lines.bytes c.in-Some.at so_far.within so_far.unread c.in-Some.ensures.steps in
    record {
      within = omega (arith, next.within);
      so_far = next.count ∙ ap (λ n. n + 1) so_far.so_far;
      ends = ends_at_feed c.args.text.now c.in-Some.at next.within next.feed;
      unread = next.after;
    }
