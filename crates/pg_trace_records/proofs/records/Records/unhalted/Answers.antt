use Rattle.std.specs.Arc.{arc_value}
use Rattle.pg_trace_records.proofs.Changed.{kept_rise}
use Rattle.pg_trace_records.proofs.records.Records.unhalted.Goals as goal

pub returns-then-len-eq0-clause-rising : goal.returns-then-len-eq0-clause-rising
returns-then-len-eq0-clause-rising g c = kept_rise c.self.inside.changes (arc_value c.self.inside.given) c.self.view_is
