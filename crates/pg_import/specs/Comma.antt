-- The comma form of an edge list: a record for each edge, and perhaps a header before them.
use Rattle.std.specs.Prelude.{ℕ, Bool, false, ◌&&◌, not, if◌then◌else◌, List, [], ◌∷◌, map, reverse, None, Some, Result}
use Rattle.std.specs.Prelude.{Ok}
use Rattle.std.specs.Char.{is_ascii_digit}
use Rattle.csv.specs.Reading.{default_config, records, strip_bom}
use Rattle.pg_import.specs.Import.{◌>>=◌, Reading, begins_with, edge_of, edges_from}
use Rattle.pg_import.specs.Text.{skip_blanks}
use Rattle.pg_import.specs.declared.line.ImportFault.{ImportFault}
use Rattle.pg_import.specs.declared.line.Line.{Line}

-- a field without the blanks and tabs at its ends
abbrev pub trimmed : List ℕ → List ℕ
trimmed field = reverse (skip_blanks (reverse (skip_blanks field)))

-- a record is a header where it has two fields or more, and neither of the first two begins with a digit
unfoldable pub is_header : List (List ℕ) → Bool
is_header [] = false
is_header (first ∷ []) = false
is_header (first ∷ second ∷ others) = not (begins_with is_ascii_digit first) && not (begins_with is_ascii_digit second)

-- what a record says that is no header
abbrev pub reading_of_record : List (List ℕ) → Reading
reading_of_record fields = edge_of fields >>= λ line. Ok (Some line)

-- what records say: a header can only be the first of them
unfoldable pub readings_of : List (List (List ℕ)) → List Reading
readings_of [] = []
readings_of (first ∷ others) = (if is_header first then Ok None else reading_of_record first) ∷ map reading_of_record
    others

-- a text in comma form: the records that `csv` states, with commas, double quotes and no header row of its own
unfoldable pub csv_of : List ℕ → Result (List Line) ImportFault
csv_of text = edges_from 1 (readings_of (map (λ fields. map trimmed fields) (records default_config (strip_bom text))))
