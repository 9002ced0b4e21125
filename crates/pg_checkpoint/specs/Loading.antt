-- Where a checkpoint stands, and what a load answers.
use Rattle.std.specs.Prelude.{◌≡◌, ℕ, ◌≤◌, ◌⊎◌, List, ◌∷◌, length, take, Option, None, Some, Result, Ok, Err}
use Rattle.std.specs.Fmt.{decimal}
use Rattle.pg_checkpoint.specs.Bounds.{Limits, MayHoldFrom}
use Rattle.pg_checkpoint.specs.Bytes.{first_coding, second_coding}
use Rattle.pg_checkpoint.specs.Records.{AreCodable, Supersteps, edges_behind, own_records}
use Rattle.pg_checkpoint.specs.declared.loading.Loaded.{Loaded}
use Rattle.pg_checkpoint.specs.declared.loading.Loaded.TheVariants.{Damaged, Found, Missing}
use Rattle.pg_checkpoint.specs.declared.reading.Unread.{Unread}
use Rattle.pg_checkpoint.specs.declared.reading.Unread.TheVariants.{Damaged as Unreadable, Memory}
use Rattle.pg_graph.specs.Rows.{Rows}
use Rattle.pg_graph.specs.declared.missing.Missing.{Missing as Policy}
use Rattle.pg_model.specs.Job.{Aggregating, Job, Program}
use Rattle.pg_model.specs.Run.{run_length}
use Rattle.pg_model.specs.declared.configuration.VertexState.{VertexState}
use Rattle.pg_part.specs.Part.{HoldsShare, PartState}
use Rattle.pg_part.specs.Handed.{PartRows, first_states}

-- a p, and the number of the partition in decimal
abbrev pub key_of : ℕ → List ℕ
key_of partition = 112 ∷ decimal partition

-- the bytes of a part of a run, in format 2
abbrev pub part_coding : {V M : Type 0} → (V → List ℕ) → (M → List ℕ) → ℕ → PartState V M → List ℕ
part_coding value message run part =
    second_coding value message run part.part_run.partition
    (edges_behind part.part_run.trace.initial (own_records part))
    (own_records part)

-- the run and the partition of which a part is asked for, and its job as far as records hang on it
pub record Asked (V M : Type 0) : Type 0 where
  pub run : ℕ
  pub rows : PartRows
  pub missing : Policy
  pub program : Program V M
  pub aggregators : List Aggregating

module _ {V M : Type 0} where
  -- what records are held against
  abbrev pub limits_of : Asked V M → Limits
  limits_of asked = record { rows = asked.rows; missing = asked.missing; writes = asked.program.declared.writes }

  -- the states with which the partition's vertices begin
  abbrev pub initial_of : Asked V M → List (VertexState V)
  initial_of asked = first_states asked.program asked.rows.graph asked.rows.partitions asked.rows.partition

module _ {V M : Type 0} (is_value : V → Type 0) (value : V → List ℕ) (is_message : M → Type 0) (message : M → List ℕ)
    (asked : Asked V M) where
  -- the bytes are the coding of these records, in format 1, or in format 2 with as many out-edges as they leave the
  -- vertices
  abbrev pub IsCheckpoint : Supersteps V M → List ℕ → Type 0
  IsCheckpoint records bytes =
      (bytes ≡ first_coding value message asked.run asked.rows.partition records)
      ⊎ (bytes ≡ second_coding value message asked.run asked.rows.partition
      (edges_behind (initial_of asked) records) records)

  -- this is the part whose coding the bytes are: its records may be held, and stand there, and no others do; and it
  -- holds its share of a run, of whatever job, in which a part has recorded them that held its share, against an old
  -- run or not
  pub record IsFound (bytes : List ℕ) (part : PartState V M) : Type 0 where
    pub partition_is : part.part_run.partition ≡ asked.rows.partition
    pub partitions_are : part.part_run.partitions ≡ asked.rows.partitions
    pub missing_is : part.part_run.missing ≡ asked.missing
    pub place_is : part.part_run.place ≡ length part.part_run.trace.records
    pub cold : part.part_run.kept ≡ None
    pub initial_is : part.part_run.trace.initial ≡ initial_of asked
    pub codable : AreCodable is_value is_message part.part_run.trace.records
    pub held : MayHoldFrom (limits_of asked) 0 part.part_run.trace.records
    pub coded : IsCheckpoint part.part_run.trace.records bytes
    pub only : (others : Supersteps V M) → AreCodable is_value is_message others → IsCheckpoint others bytes
        → others ≡ part.part_run.trace.records
    pub again : (job : Job V M) (kept : Option Rows) (r : ℕ) (before : PartState V M)
        → job.program ≡ asked.program → job.missing ≡ asked.missing → job.aggregators ≡ asked.aggregators
        → r ≤ run_length job asked.rows.graph
        → HoldsShare job kept asked.rows.graph asked.rows.partitions asked.rows.partition r before
        → part.part_run.trace.records ≡ take r before.part_run.trace.records
        → HoldsShare job None asked.rows.graph asked.rows.partitions asked.rows.partition r part

  -- the bytes are the coding of no records that may be held
  abbrev pub IsDamaged : List ℕ → Type 0
  IsDamaged bytes = (records : Supersteps V M) → AreCodable is_value is_message records
      → MayHoldFrom (limits_of asked) 0 records → IsCheckpoint records bytes → ⊥

  -- what bytes are taken for
  abbrev pub IsTaken : List ℕ → Result (PartState V M) Unread → Type 0
  IsTaken bytes (Ok part) = IsFound bytes part
  IsTaken bytes (Err Unreadable) = IsDamaged bytes
  IsTaken bytes (Err Memory) = Unit {0}

  -- the answer of a load, by what stands under the key
  abbrev pub IsLoaded : Option (List ℕ) → Loaded V M → Type 0
  IsLoaded None Missing = Unit {0}
  IsLoaded None (Found part) = ⊥
  IsLoaded None Damaged = ⊥
  IsLoaded (Some bytes) Missing = ⊥
  IsLoaded (Some bytes) (Found part) = IsFound bytes part
  IsLoaded (Some bytes) Damaged = IsDamaged bytes
