use Rattle.std.proofs.Common.{◌++◌, ap, arith, drop, sym, ◌∙◌}
use Rattle.std.proofs.Math.ListN.{drop_of_length-le}
use Rattle.std.proofs.lemmas.List.{drop-drop}
use Rattle.pg_map.proofs.Cut.{cut_leaves}
use Rattle.pg_map.proofs.Moved.{moved_all}
use Rattle.pg_inbox_messages.specs.Grouping.{groups_of}
use Rattle.pg_inbox.specs.Inboxes.{inboxes_of}
use Rattle.pg_inbox.proofs.receivers.inboxes_of.Goals as goal

pub loop-done-preserved : goal.loop-done-preserved
loop-done-preserved g c =
    let made = inboxes_of (g.C.MessageCombiner.combining c.args.combiner.now) in
    let items = c.args.message_lists.now in
    let done = c.loop-done.done in
    let count = c.in_ok-more.count in
    let remaining = c.split_at.result.1.now in
    let back = c.split_at.ensures.back in
    let more = c.in_ok-more.more in
    record {
      within = omega (arith, c.in_ok-more.ensures.count.1, cut_leaves items remaining done c.loop-done.invariant.within back);
      inboxes = ap (λ l. more ++ made (groups_of l)) (sym (drop-drop count done items))
          ∙ ap (λ l. more ++ made (groups_of (drop count l))) (sym back)
          ∙ c.in_ok-more.ensures.more
          ∙ ap (λ l. c.loop-done.inboxes ++ made (groups_of l)) back
          ∙ c.loop-done.invariant.inboxes;
    }

pub returns : goal.returns
returns g c =
    let made = inboxes_of (g.C.MessageCombiner.combining c.args.combiner.now) in
    moved_all c.loop-done.inboxes (ap (λ l. made (groups_of l)) (drop_of_length-le c.args.message_lists.now c.loop-done-test.false)) c.loop-done.invariant.inboxes
