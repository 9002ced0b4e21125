use Rattle.std.proofs.Common.{◌≡◌, ◌<◌, [], length, subst, arith}
use Rattle.std.proofs.lemmas.Bool.Decides.{nat_tests}
use Rattle.std.proofs.lemmas.Grind.{common_steps}
use Rattle.pregeld.specs.Reading.{SkipsLine}
use Rattle.pregeld.proofs.Blocks.{aside_at_end, aside_at_feed, aside_with_rest, none_aside}
use Rattle.pregeld.proofs.block.skip_block.Goals as goal

pub returns-then-ends_line-clause-ok : goal.returns-then-ends_line-clause-ok
returns-then-ends_line-clause-ok g c rest old new there stops =
    aside_at_feed c.args.front.now rest old new (g.R.Read.remaining c.args.reader.now) c.if-ends_line.ensures stops there

pub returns-then-branch-clause-ok : goal.returns-then-branch-clause-ok
returns-then-branch-clause-ok g c rest old new there stops =
    let unread = g.R.Read.remaining c.skip_line.new.reader in
    aside_with_rest c.args.front.now rest old new unread c.if-ends_line.ensures stops (subst (λ b. SkipsLine b rest unread) c.if-branch.true
    (c.in_ok-skip_line.ensures.ok rest there))

pub returns-then-is_empty-clause-ok : goal.returns-then-is_empty-clause-ok
returns-then-is_empty-clause-ok g c rest old new there stops =
    let unread = g.R.Read.remaining c.skip_line.new.reader in
    let none : c.args.front.now ≡ [] = grind (arith, nat_tests, common_steps) in
    none_aside c.args.front.now rest old new unread none (subst (λ b. SkipsLine b rest unread) c.if-branch.false (c.in_ok-skip_line.ensures.ok rest there))

pub returns-clause-ok : goal.returns-clause-ok
returns-clause-ok g c rest old new there stops =
    let unread = g.R.Read.remaining c.skip_line.new.reader in
    let some : 0 < length c.args.front.now = grind (arith, nat_tests) in
    aside_at_end c.args.front.now rest old new unread some c.if-ends_line.ensures stops (subst (λ b. SkipsLine b rest unread) c.if-branch.false
    (c.in_ok-skip_line.ensures.ok rest there))
