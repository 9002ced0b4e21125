use Rattle.pg_stats.specs.MessageCounts.{is_counted}
use Rattle.pg_stats.proofs.Passing.{none_among}
use Rattle.pg_stats.proofs.messages.messages_among.Goals as goal

pub returns-in-None : goal.returns-in-None
returns-in-None g c = rw c.in-None.is (none_among g.row.M.Denot (is_counted c.args.counted) c.args.ids.now)
