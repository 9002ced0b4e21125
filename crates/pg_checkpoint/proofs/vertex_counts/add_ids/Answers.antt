use Rattle.pg_checkpoint.proofs.Appending.{mapped_more}
use Rattle.pg_checkpoint.proofs.vertex_counts.add_ids.Goals as goal

pub loop-entry-preserved : goal.loop-entry-preserved
loop-entry-preserved g c =
    mapped_more c.args.entries.now c.loop-entry.entry-index c.entry-item.result c.loop-entry-test.true c.entry-item.is
    (λ r. r.0) c.args.ids.now.items _ _ c.loop-entry.invariant c.in_ok-push.ensures.items
