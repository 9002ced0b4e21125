use Rattle.std.proofs.Common.{ap, ◌∙◌}
use Rattle.std.proofs.lemmas.List.{take_all}
use Rattle.pg_stats.specs.MessageCounts.{message_counts_recorded}
use Rattle.pg_stats.proofs.Recording.{recorded_more}
use Rattle.pg_stats.proofs.recorded.message_counts_recorded.Goals as goal

pub loop-given-preserved : goal.loop-given-preserved
loop-given-preserved g c =
    recorded_more c.args.graph.now c.args.missing c.args.records.now c.loop-given.given-index c.loop-given-test.true c.loop-given-item.is
    c.loop-given.invariant c.sent.ensures c.in_ok-message_counts.ensures

pub returns : goal.returns
returns g c =
    c.loop-given.invariant
    ∙ ap (message_counts_recorded c.args.missing c.args.graph.now) (take_all c.loop-given.given-index c.args.records.now c.loop-given-test.false)
