use Rattle.std.proofs.Common.{◌+◌, ap, cond, drop, is_some, length, not, ◌∙◌}
use Rattle.std.proofs.Math.ListN.{drop_of_length-le}
use Rattle.pg_graph.specs.Rows.{Rows, row_at}
use Rattle.pg_map.proofs.Moved.{first_of_rest}
use Rattle.pg_inbox_bundles.proofs.Counted.{counted_all, counted_one}
use Rattle.pg_inbox_bundles.proofs.counting.undeliverable_listed.Goals as goal

pub loop-target-preserved : goal.loop-target-preserved
loop-target-preserved g c =
    let i = c.loop-target.target-index in
    let message_lists = c.args.message_lists.now in
    let count = c.loop-target.count in
    let target = c.loop-target-item.result.0 in
    let is_undeliverable = λ (rows : Rows). not (is_some (row_at target rows)) in
    record {
      rows = c.in_ok-count.ensures.same ∙ c.loop-target.invariant.rows;
      count = counted_one (λ p. cond (not (is_some (row_at p.0 c.args.graph.now))) (length p.1.envelopes) 0) (drop (i + 1) message_lists) count
          (first_of_rest message_lists i c.loop-target-test.true c.loop-target-item.is) c.loop-target.invariant.count
          (c.in_ok-count.ensures.count ∙ ap (λ rows. count + cond (is_undeliverable rows) c.len.result 0) c.loop-target.invariant.rows
          ∙ ap (λ n. count + cond (is_undeliverable c.args.graph.now) n 0) c.len.ensures);
    }

pub returns : goal.returns
returns g c =
    counted_all (λ p. cond (not (is_some (row_at p.0 c.args.graph.now))) (length p.1.envelopes) 0) c.loop-target.count
    (drop_of_length-le c.args.message_lists.now c.loop-target-test.false) c.loop-target.invariant.count
