use Rattle.std.proofs.Common.{◌≡◌, [], take}
use Rattle.pg_map.specs.Entries.{with_changes, somes}
use Rattle.pg_trace_records.proofs.Changed.{looked_up}
use Rattle.pg_trace_records.proofs.records.found.Given as goal

abbrev pub invariant-loop-id : goal.invariant-loop-id
invariant-loop-id g l = record {
  found : l.all.items ≡ somes (looked_up (with_changes l.changes (with_changes l.given [])) (take l.id-index l.ids));
  same : l.cursor ≡ l.changes;
}
