use Rattle.pg_checkpoint.proofs.PartRunState.{not_declared}
use Rattle.pg_checkpoint.proofs.bounds.is_declared.Goals as goal

pub returns-else-number-lt16 : goal.returns-else-number-lt16
returns-else-number-lt16 c = not_declared c.args.writes c.number-number.result c.args.place c.ranges.writes.fits c.number-number.ensures c.if-number-lt16.false
