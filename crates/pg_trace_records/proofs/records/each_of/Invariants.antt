use Rattle.std.proofs.Common.{◌≡◌, take}
use Rattle.std.specs.Arc.{arc_value}
use Rattle.pg_trace_records.proofs.Changed.{each_some}
use Rattle.pg_trace_records.proofs.records.each_of.Given as goal

abbrev pub invariant-loop-place : goal.invariant-loop-place
invariant-loop-place g l = l.each.items ≡ each_some (take l.place (arc_value l.all))
