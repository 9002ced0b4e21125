use Rattle.std.proofs.Common.{Bor, List, ℕ, Some, false, ◌≡◌, sym, refl, ◌∙◌, inl, inr, arith, map, []}
use Rattle.std.proofs.lemmas.List.{append-nil}
use Rattle.std.proofs.lemmas.Result.{err_from_is_err_and}
use Rattle.csv.specs.Records.{fields_of}
use Rattle.pg_import.proofs.Readings.{followed_by-none}
use Rattle.pg_import.proofs.RecordReadings.{csv_of-left, header_step, meaning_left-none, record_fault, record_step}
use Rattle.pg_import.proofs.RecordsLeft.{starts_text}
use Rattle.pg_import.specs.Comma.{csv_of, is_header, trimmed}
use Rattle.pg_import.specs.Records.{TakesRecord, records_left}
use Rattle.pg_import.proofs.comma.read_csv.Goals as goal
use Rattle.pg_import.proofs.comma.read_csv.Goals.{else-number-eq-HEADER-via-then-number-eq-HEADER+else-is_header}
use Rattle.pg_import.proofs.comma.read_csv.Goals.{else-number-eq-HEADER-via-else-number-eq-HEADER}

pub loop-lines-init : goal.loop-lines-init
loop-lines-init c =
    let reader = c.from_reader-reader.ensures in
    let start = starts_text (λ (s : Bor (List ℕ)). Some s.now) c.from_reader-reader.result c.args.text.now
    (rw (c.flexible.ensures, c.has_headers.ensures) at reader.config ∙ c.new.ensures.config)
    (rw (c.flexible.ensures, c.has_headers.ensures) at reader.trim ∙ c.new.ensures.trim)
    (inr (inr (rw (c.flexible.ensures, c.has_headers.ensures) at reader.has_headers, reader.headers)))
    reader.state reader.source in
    record {
      at = start.at;
      bytes = omega (arith, start.bytes);
      so_far = rw (c.new-lines.ensures.items, start.all) (followed_by-none _ ∙ sym (csv_of-left c.args.text.now));
    }

pub loop-lines-preserved-then-is_header : goal.loop-lines-preserved-then-is_header
loop-lines-preserved-then-is_header c =
    let took : TakesRecord (λ (s : Bor (List ℕ)). Some s.now) c.loop-lines.reader c.next_record.new.reader (fields_of c.next_record.new.row) =
    rw c.if-branch.true at c.in_ok-next_record.ensures.ok in
    let inv = c.loop-lines.invariant in
    record {
      at = took.goes_on;
      bytes = omega (arith, took.fewer, inv.bytes);
      so_far = header_step c.loop-lines.number c.loop-lines.lines.items _ _ (fields_of c.next_record.new.row)
          (csv_of c.args.text.now) c.if-number-eq-HEADER.true (sym c.if-is_header.ensures) took.first inv.so_far;
    }

pub loop-lines-preserved : goal.loop-lines-preserved
loop-lines-preserved c =
    let took : TakesRecord (λ (s : Bor (List ℕ)). Some s.now) c.loop-lines.reader c.next_record.new.reader (fields_of c.next_record.new.row) =
    rw c.if-branch.true at c.in_ok-next_record.ensures.ok in
    let inv = c.loop-lines.invariant in
    let plain : c.loop-lines.number ≡ 0 → is_header (map trimmed (fields_of c.next_record.new.row)) ≡ false = λ zeroth. elim c.else-number-eq-HEADER.branch [
      | else-number-eq-HEADER-via-then-number-eq-HEADER+else-is_header w ↦ sym w.if-is_header.ensures
      | else-number-eq-HEADER-via-else-number-eq-HEADER w ↦ absurd (omega (arith, w.if-number-eq-HEADER.false))
    ] in
    record {
      at = took.goes_on;
      bytes = omega (arith, took.fewer, inv.bytes);
      so_far = record_step c.loop-lines.number c.loop-lines.lines.items c.add_reading.new.lines.items _ _ (fields_of c.next_record.new.row)
          (csv_of c.args.text.now) plain took.first
          (rw c.read_record.ensures at c.in_ok-add_reading.ensures.ok) inv.so_far;
    }

pub returns-in_err-add_reading : goal.returns-in_err-add_reading
returns-in_err-add_reading c =
    let took : TakesRecord (λ (s : Bor (List ℕ)). Some s.now) c.loop-lines.reader c.next_record.new.reader (fields_of c.next_record.new.row) =
    rw c.if-branch.true at c.in_ok-next_record.ensures.ok in
    let inv = c.loop-lines.invariant in
    let plain : c.loop-lines.number ≡ 0 → is_header (map trimmed (fields_of c.next_record.new.row)) ≡ false = λ zeroth. elim c.else-number-eq-HEADER.branch [
      | else-number-eq-HEADER-via-then-number-eq-HEADER+else-is_header w ↦ sym w.if-is_header.ensures
      | else-number-eq-HEADER-via-else-number-eq-HEADER w ↦ absurd (omega (arith, w.if-number-eq-HEADER.false))
    ] in
    let p = err_from_is_err_and c.from_residual-in_err-add_reading.result c.from_residual-in_err-add_reading.ensures.1 in
    rw (p.1, p.2) (elim c.in_err-add_reading.ensures.err [
      | inl memory ↦ inl memory
      | inr fault ↦ inr (record_fault c.loop-lines.number c.loop-lines.lines.items _ _ (fields_of c.next_record.new.row)
          (csv_of c.args.text.now) _ plain took.first (rw c.read_record.ensures at fault) inv.so_far)
    ])

pub returns : goal.returns
returns c =
    let none : records_left (λ (s : Bor (List ℕ)). Some s.now) c.loop-lines.reader ≡ [] = rw c.if-branch.false at c.in_ok-next_record.ensures.ok in
    sym c.loop-lines.invariant.so_far ∙ rw (none, meaning_left-none c.loop-lines.number, append-nil c.loop-lines.lines.items) refl
