-- Records and their readings, one after another.
use Rattle.std.proofs.Common.{◌≡◌, ℕ, zero, suc, ◌+◌, true, false, List, [], ◌∷◌, map, Result, Ok, Err, refl, arith, add-one, ◌∙◌, ap, sym}
use Rattle.csv.specs.Reading.{default_config, records, strip_bom}
use Rattle.pg_import.specs.Comma.{csv_of, is_header, reading_of_record, readings_of, trimmed}
use Rattle.pg_import.specs.Import.{Reading, at_line, edges_from, followed_by}
use Rattle.pg_import.specs.declared.line.ImportFault.{ImportFault}
use Rattle.pg_import.specs.declared.line.Line.{Line}

-- the readings of the records that are left after the first n
unfoldable pub readings_left : ℕ → List (List (List ℕ)) → List Reading
readings_left zero rows = readings_of (map (λ fields. map trimmed fields) rows)
readings_left (suc n) rows = map (λ fields. reading_of_record (map trimmed fields)) rows

-- the meaning of the records that are left after the first n
abbrev pub meaning_left : ℕ → List (List (List ℕ)) → Result (List Line) ImportFault
meaning_left n rows = edges_from (n + 1) (readings_left n rows)

map-map-readings : (rows : List (List (List ℕ)))
    → map reading_of_record (map (λ fields. map trimmed fields) rows) ≡ map (λ fields. reading_of_record (map trimmed fields)) rows
map-map-readings [] = refl
map-map-readings (fields ∷ rows) = ap (λ more. reading_of_record (map trimmed fields) ∷ more) (map-map-readings rows)

-- a header says nothing
pub meaning_left-header : (fields : List (List ℕ)) (rows : List (List (List ℕ))) → is_header (map trimmed fields) ≡ true
    → meaning_left 0 (fields ∷ rows) ≡ meaning_left 1 rows
unfolding readings_left readings_of edges_from
meaning_left-header fields rows header = rw (header, map-map-readings rows) refl

-- any other record says what it says by itself
pub meaning_left-record : (n : ℕ) (fields : List (List ℕ)) (rows : List (List (List ℕ))) → (n ≡ 0 → is_header (map trimmed fields) ≡ false)
    → meaning_left n (fields ∷ rows) ≡ at_line (n + 1) (reading_of_record (map trimmed fields)) (meaning_left (n + 1) rows)
unfolding readings_left readings_of edges_from
meaning_left-record zero fields rows plain = rw (plain refl, map-map-readings rows) refl
meaning_left-record (suc n) fields rows plain = rw add-one refl

pub meaning_left-none : (n : ℕ) → meaning_left n [] ≡ Ok []
unfolding readings_left readings_of edges_from
meaning_left-none zero = refl
meaning_left-none (suc n) = refl

pub csv_of-left : (text : List ℕ) → csv_of text ≡ meaning_left 0 (records default_config (strip_bom text))
unfolding csv_of readings_left
csv_of-left text = refl

-- a step past a header
pub header_step : (n : ℕ) (lines : List Line) (old new : List (List (List ℕ))) (fields : List (List ℕ)) (whole : Result (List Line) ImportFault)
    → n + 1 ≡ 1 → is_header (map trimmed fields) ≡ true
    → old ≡ fields ∷ new → followed_by lines (meaning_left n old) ≡ whole → followed_by lines (meaning_left (n + 1) new) ≡ whole
header_step zero lines old new fields whole first header next so_far =
    ap (followed_by lines) (sym (meaning_left-header fields new header)) ∙ rw next at so_far
header_step (suc n) lines old new fields whole first header next so_far = absurd (omega arith)

-- a step past any other record, which added these lines
pub record_step : (n : ℕ) (lines after : List Line) (old new : List (List (List ℕ))) (fields : List (List ℕ))
    (whole : Result (List Line) ImportFault) → (n ≡ 0 → is_header (map trimmed fields) ≡ false)
    → old ≡ fields ∷ new
    → ((others : Result (List Line) ImportFault)
    → followed_by lines (at_line (n + 1) (reading_of_record (map trimmed fields)) others) ≡ followed_by after others)
    → followed_by lines (meaning_left n old) ≡ whole → followed_by after (meaning_left (n + 1) new) ≡ whole
record_step n lines after old new fields whole plain next added so_far =
    sym (added (meaning_left (n + 1) new)) ∙ ap (followed_by lines) (sym (meaning_left-record n fields new plain)) ∙ rw next at so_far

-- a record that is faulty
pub record_fault : (n : ℕ) (lines : List Line) (old new : List (List (List ℕ))) (fields : List (List ℕ)) (whole : Result (List Line) ImportFault)
    (fault : ImportFault) → (n ≡ 0 → is_header (map trimmed fields) ≡ false)
    → old ≡ fields ∷ new
    → ((others : Result (List Line) ImportFault) → at_line (n + 1) (reading_of_record (map trimmed fields)) others ≡ Err fault)
    → followed_by lines (meaning_left n old) ≡ whole → whole ≡ Err fault
record_fault n lines old new fields whole fault plain next faulty so_far =
    sym so_far ∙ ap (λ rows. followed_by lines (meaning_left n rows)) next
    ∙ ap (followed_by lines) (meaning_left-record n fields new plain ∙ faulty (meaning_left (n + 1) new))
