use Rattle.std.proofs.Common.{◌+◌, drop, length}
use Rattle.std.proofs.Math.ListN.{drop_of_length-le}
use Rattle.pg_map.proofs.Moved.{first_of_rest}
use Rattle.pg_inbox_bundles.proofs.Counted.{counted_all, counted_one}
use Rattle.pg_inbox_bundles.proofs.counting.messages_listed.Goals as goal

pub loop-message_list-preserved : goal.loop-message_list-preserved
loop-message_list-preserved g c =
    let i = c.loop-message_list.message_list-index in
    let message_lists = c.args.message_lists.now in
    counted_one (λ p. length p.1.envelopes) (drop (i + 1) message_lists) c.loop-message_list.count (first_of_rest message_lists i c.loop-message_list-test.true c.loop-message_list-item.is)
    c.loop-message_list.invariant c.in_ok-count.ensures

pub returns : goal.returns
returns g c =
    counted_all (λ p. length p.1.envelopes) c.loop-message_list.count (drop_of_length-le c.args.message_lists.now c.loop-message_list-test.false) c.loop-message_list.invariant
