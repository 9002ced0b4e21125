use Rattle.std.proofs.Common.{subst}
use Rattle.pregeld.specs.Reading.{SkipsLine}
use Rattle.pregeld.proofs.Blocks.{cut_while_skipping, one_more_skipped}
use Rattle.pregeld.proofs.block.skip_lines.Goals as goal

pub returns-then-not-branch-clause-ok : goal.returns-then-not-branch-clause-ok
returns-then-not-branch-clause-ok g c lines there =
    let unread = g.R.Read.remaining c.skip_line.new.reader in
    let so_far = c.loop-skipped.invariant lines there in
    cut_while_skipping c.loop-skipped._skipped c.args.count lines (g.R.Read.remaining c.loop-skipped.reader) unread c.loop-skipped-test.true so_far.1
    (λ text known. subst (λ b. SkipsLine b text unread) c.if-not-branch.true (c.in_ok-skip_line.ensures.ok text known))

pub loop-skipped-preserved : goal.loop-skipped-preserved
loop-skipped-preserved g c lines there =
    let unread = g.R.Read.remaining c.skip_line.new.reader in
    let so_far = c.loop-skipped.invariant lines there in
    one_more_skipped c.loop-skipped._skipped lines (g.R.Read.remaining c.loop-skipped.reader) unread so_far.0 so_far.1
    (λ text known. subst (λ b. SkipsLine b text unread) c.if-not-branch.false (c.in_ok-skip_line.ensures.ok text known))
