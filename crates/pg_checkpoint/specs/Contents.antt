-- What the bytes of a checkpoint say, and what it is to read it.
use Rattle.std.specs.Prelude.{◌≡◌, ℕ, ◌<◌, ◌^◌, ◌++◌, List, [], map, Option, None, Some, IfSome, Result, Ok, Err}
use Rattle.std.specs.List.{flat_map}
use Rattle.pg_checkpoint.specs.Bytes.{first_coding, second_coding}
use Rattle.pg_checkpoint.specs.Reading.{AreParts, parts_coding}
use Rattle.pg_checkpoint.specs.Records.{AreCodable, Supersteps}
use Rattle.pg_checkpoint.specs.declared.contents.Contents.{Contents}
use Rattle.pg_checkpoint.specs.declared.reading.Opening.{Opening}
use Rattle.pg_checkpoint.specs.declared.reading.RecordParts.{RecordParts}
use Rattle.pg_checkpoint.specs.declared.reading.Unread.{Unread}
use Rattle.pg_checkpoint.specs.declared.reading.Unread.TheVariants.{Damaged, Memory}
use Rattle.pg_model.specs.declared.record.Record.{Record}
use Rattle.pg_program.specs.Coding.{are_so_many, list_coding, natural_coding}
use Rattle.pg_program.specs.Plain.{are_listed}

-- the record of which these are the parts
abbrev pub record_of : {V M : Type 0} → RecordParts V M → ℕ × Record V M
record_of p =
    (p.id, record { value = p.value; edges = p.edges; halted = p.halted; sent = p.sent; contributed = p.contributed })

-- those of supersteps
abbrev pub records_of : {V M : Type 0} → List (List (RecordParts V M)) → Supersteps V M
records_of supersteps = map (λ parts. map record_of parts) supersteps

-- how many out-edges there are, only in format 2
abbrev pub edges_coding : Option ℕ → List ℕ
edges_coding None = []
edges_coding (Some edges) = natural_coding edges

module _ {V M : Type 0} (value : V → List ℕ) (message : M → List ℕ) where
  -- what stands behind the opening: in format 2 the number of out-edges, and then the supersteps
  abbrev pub rest_coding : Contents V M → List ℕ
  rest_coding contents =
      edges_coding contents.edges ++ flat_map (list_coding (parts_coding value message)) contents.supersteps

-- the magic with which the format begins, as a number
abbrev pub magic_of : Option ℕ → ℕ
magic_of None = 826492752
magic_of (Some edges) = 843269968

module _ {V M : Type 0} (is_value : V → Type 0) (is_message : M → Type 0) where
  pub record IsRest (opening : Opening) (contents : Contents V M) : Type 0 where
    pub format : opening.magic ≡ magic_of contents.edges
    pub edges : IfSome contents.edges (λ edges. edges < 2 ^ 64)
    pub supersteps : are_so_many (are_listed (AreParts is_value is_message)) opening.supersteps contents.supersteps

-- the coding of records, in format 2 with this number of out-edges, or in format 1
abbrev pub coding_in : {V M : Type 0} → (V → List ℕ) → (M → List ℕ) → ℕ → ℕ → Option ℕ → Supersteps V M → List ℕ
coding_in value message run partition None records = first_coding value message run partition records
coding_in value message run partition (Some edges) records = second_coding value message run partition edges records

module _ {V M : Type 0} (is_value : V → Type 0) (value : V → List ℕ) (is_message : M → Type 0) (message : M → List ℕ)
    (run partition : ℕ) (bytes : List ℕ) where
  -- the bytes are the coding of these records, and of no others
  pub record IsSaid (contents : Contents V M) : Type 0 where
    pub codable : AreCodable is_value is_message (records_of contents.supersteps)
    pub coded : bytes ≡ coding_in value message run partition contents.edges (records_of contents.supersteps)
    pub only : (edges : Option ℕ) (records : Supersteps V M) → IfSome edges (λ n. n < 2 ^ 64)
        → AreCodable is_value is_message records → bytes ≡ coding_in value message run partition edges records
        → (edges ≡ contents.edges) × (records ≡ records_of contents.supersteps)

  abbrev pub Says : Result (Contents V M) Unread → Type 0
  Says (Ok contents) = IsSaid contents
  Says (Err Damaged) = (edges : Option ℕ) (records : Supersteps V M) → IfSome edges (λ n. n < 2 ^ 64)
      → AreCodable is_value is_message records → bytes ≡ coding_in value message run partition edges records → ⊥
  Says (Err Memory) = Unit {0}
