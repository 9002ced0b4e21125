use Rattle.std.proofs.Common.{◌≡◌, ◌+◌, ◌≤◌, Some, length}
use Rattle.pg_import.proofs.RecordReadings.{meaning_left}
use Rattle.pg_import.specs.Comma.{csv_of}
use Rattle.pg_import.specs.Import.{followed_by}
use Rattle.pg_import.specs.Records.{IsBetweenRecords, bytes_left, records_left}
use Rattle.pg_import.proofs.comma.read_csv.Given as goal

abbrev pub invariant-loop-lines : goal.invariant-loop-lines
invariant-loop-lines l = record {
  at : IsBetweenRecords (λ s. Some s.now) l.reader;
  bytes : l.number + length (bytes_left (λ s. Some s.now) l.reader) ≤ length l.text;
  so_far : followed_by l.lines.items (meaning_left l.number (records_left (λ s. Some s.now) l.reader)) ≡ csv_of l.text;
}

abbrev pub decreases-loop-lines : goal.decreases-loop-lines
decreases-loop-lines l = length (bytes_left (λ s. Some s.now) l.reader)
