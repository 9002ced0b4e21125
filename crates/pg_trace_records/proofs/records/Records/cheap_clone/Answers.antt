use Rattle.std.specs.Arc.{arc_value}
use Rattle.pg_trace_records.proofs.Changed.{kept_rise}
use Rattle.pg_trace_records.proofs.records.Records.cheap_clone.Goals as goal

pub returns-clause-rising : goal.returns-clause-rising
returns-clause-rising g c = kept_rise c.self.inside.changes (arc_value c.self.inside.given) c.self.view_is

pub returns-in_err-try_clone-clause-rising : goal.returns-in_err-try_clone-clause-rising
returns-in_err-try_clone-clause-rising g c = kept_rise c.self.inside.changes (arc_value c.self.inside.given) c.self.view_is

pub returns-in_err-cheap_clone-clause-rising : goal.returns-in_err-cheap_clone-clause-rising
returns-in_err-cheap_clone-clause-rising g c = kept_rise c.self.inside.changes (arc_value c.self.inside.given) c.self.view_is
