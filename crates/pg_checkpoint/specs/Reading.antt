-- What it is to read from the front of bytes.
use Rattle.std.specs.Prelude.{ℕ, ◌<◌, ◌^◌, ◌++◌, List, Some, None, Result, Ok, Err, FitsSigned}
use Rattle.std.specs.Int.{w64}
use Rattle.pg_checkpoint.specs.Bytes.{contributed_coding, edge_coding, half_coding, sent_coding}
use Rattle.pg_checkpoint.specs.declared.reading.RecordParts.{RecordParts}
use Rattle.pg_checkpoint.specs.declared.reading.Opening.{Opening}
use Rattle.pg_checkpoint.specs.declared.reading.Unread.{Unread}
use Rattle.pg_checkpoint.specs.declared.reading.Unread.TheVariants.{Damaged, Memory}
use Rattle.pg_program.specs.Coding.{IsRead, list_coding, natural_coding, truth_coding}
use Rattle.pg_program.specs.Plain.{are_both, are_listed, is_byte, is_id}

-- a value at the front of the bytes was read, and these remain; or there is none; or memory was refused
abbrev pub Reads : {A : Type 0} → (A → Type 0) → (A → List ℕ) → List ℕ → Result A Unread → List ℕ → Type 0
Reads is_value coding bytes (Ok x) remaining = IsRead is_value coding bytes (Some (x, remaining))
Reads is_value coding bytes (Err Damaged) remaining = IsRead is_value coding bytes None
Reads is_value coding bytes (Err Memory) remaining = Unit {0}

-- numbers in their ranges
pub record IsOpening (opening : Opening) : Type 0 where
  pub magic : opening.magic < 2 ^ 32
  pub len : opening.len < 2 ^ 64
  pub run : opening.run < 2 ^ 64
  pub partition : opening.partition < 2 ^ 32
  pub supersteps : opening.supersteps < 2 ^ 32

abbrev pub opening_coding : Opening → List ℕ
opening_coding opening =
    half_coding opening.magic ++ (natural_coding opening.len ++ (natural_coding opening.run
    ++ (half_coding opening.partition ++ half_coding opening.supersteps)))

module _ {V M : Type 0} where
  pub record AreParts (is_value : V → Type 0) (is_message : M → Type 0) (parts : RecordParts V M) : Type 0 where
    pub id : is_id parts.id
    pub value : is_value parts.value
    pub edges : are_listed (are_both is_id (FitsSigned w64)) parts.edges
    pub sent : are_listed (are_both is_id is_message) parts.sent
    pub contributed : are_listed (are_both is_byte (FitsSigned w64)) parts.contributed

  abbrev pub parts_coding : (V → List ℕ) → (M → List ℕ) → RecordParts V M → List ℕ
  parts_coding value message parts =
      natural_coding parts.id ++ (truth_coding parts.halted ++ (value parts.value
      ++ (list_coding edge_coding parts.edges
      ++ (list_coding (sent_coding message) parts.sent ++ list_coding contributed_coding parts.contributed))))
