use Rattle.std.proofs.Common.{◌≡◌, ◌++◌, drop, take}
use Rattle.pg_import.specs.Batch.{batch_of, with_lines}
use Rattle.pg_import.specs.Named.{Shows}
use Rattle.pg_import.proofs.batch.into_batch.Given as goal

abbrev pub invariant-loop-place : goal.invariant-loop-place
invariant-loop-place l = record {
  shows : Shows l.graph l.named (with_lines (take l.place l.lines) l.graph);
  so_far : l.batch ++ batch_of (drop l.place l.lines) (with_lines (take l.place l.lines) l.graph) ≡ batch_of l.lines l.graph;
}
