use Rattle.std.proofs.Common.{◌+◌, ap, cond, length, ◌∙◌}
use Rattle.std.proofs.lemmas.List.{take_all}
use Rattle.pg_inbox.specs.Handed.{envelopes_at}
use Rattle.pg_stats.specs.MessageCounts.{is_counted, messages_among}
use Rattle.pg_stats.proofs.Passing.{among_more}
use Rattle.pg_stats.proofs.messages.messages_to_each.Goals as goal

pub loop-id-preserved : goal.loop-id-preserved
loop-id-preserved g c =
    let id = c.id-item.result in
    let same = c.loop-id.invariant.same_targets in
    record {
      same_targets = c.in_ok-count.ensures.same_targets ∙ same;
      cursor = c.in_ok-count.ensures.same ∙ c.loop-id.invariant.cursor;
      counted = among_more (is_counted c.args.counted) c.args.ids.now c.loop-id.id-index c.args.bundle.now c.loop-id-test.true c.id-item.is
          c.loop-id.invariant.counted c.loop-id.invariant.cursor
          (c.in_ok-count.ensures.count ∙ ap (λ t. c.loop-id.count + cond (is_counted t id) (length (envelopes_at id c.loop-id.cursor)) 0) same);
    }

pub returns : goal.returns
returns g c =
    c.loop-id.invariant.counted ∙ ap (λ ids. messages_among (is_counted c.args.counted) ids c.args.bundle.now)
    (take_all c.loop-id.id-index c.args.ids.now c.loop-id-test.false)
