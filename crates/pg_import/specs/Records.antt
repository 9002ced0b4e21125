-- What a reader of records has not read yet.
use Rattle.std.specs.Prelude.{◌≡◌, ℕ, ◌+◌, ◌<◌, false, List, [], ◌∷◌, length, Option, Some, unwrap_or}
use Rattle.csv.specs.Machine.{ends_at_end}
use Rattle.csv.specs.Reading.{Ready, default_config, reader_config, reader_state, reader_trim, records_from, source_of}
use Rattle.csv.specs.declared.reader.Reader.{Reader}
use Rattle.csv.specs.declared.reader.Trim.TheVariants as trim

module _ {R : Type 0} (remaining : R → Option (List ℕ)) where
  -- the bytes that a reader has not read yet
  abbrev pub bytes_left : Reader R → List ℕ
  bytes_left reader = unwrap_or (source_of remaining reader) []

  -- the records that it has not read yet
  unfoldable pub records_left : Reader R → List (List (List ℕ))
  records_left reader = records_from default_config (length (bytes_left reader) + 1) (reader_state reader)
      (bytes_left reader)

  -- a reader of known bytes, with the settings of the comma form, that stands between two records
  pub record IsBetweenRecords (reader : Reader R) : Type 0 where
    pub config : reader_config reader ≡ default_config
    pub trim : reader_trim reader ≡ trim.None
    pub ready : Ready reader
    pub known : source_of remaining reader ≡ Some (bytes_left reader)
    pub between : ends_at_end (reader_state reader) ≡ false

  -- the next record was taken, and had these fields
  pub record TakesRecord (old new : Reader R) (fields : List (List ℕ)) : Type 0 where
    pub first : records_left old ≡ fields ∷ records_left new
    pub fewer : length (bytes_left new) < length (bytes_left old)
    pub goes_on : IsBetweenRecords new
