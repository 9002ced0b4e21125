-- What the records of a part are held against.
use Rattle.std.specs.Prelude.{◌≡◌, ℕ, suc, ◌==◌, ◌&&◌, ◌||◌, not, Bool, false, true, List, [], ◌∷◌, is_some}
use Rattle.std.specs.Prelude.{Result, Ok, Err}
use Rattle.std.specs.List.{AllByRecursion, list_all}
use Rattle.pg_checkpoint.specs.Records.{Supersteps}
use Rattle.pg_checkpoint.specs.declared.reading.Unread.{Unread}
use Rattle.pg_checkpoint.specs.declared.reading.Unread.TheVariants.{Damaged, Memory}
use Rattle.pg_graph.specs.Handed.{IsRising}
use Rattle.pg_graph.specs.Rows.{row_at}
use Rattle.pg_graph.specs.declared.missing.Missing.{Missing}
use Rattle.pg_graph.specs.declared.missing.Missing.TheVariants.{Create, Drop}
use Rattle.pg_map.specs.Entries.{HasRisingIds}
use Rattle.pg_model.specs.Job.{has_place}
use Rattle.pg_model.specs.Share.{belongs}
use Rattle.pg_model.specs.declared.record.Record.{Record}
use Rattle.pg_part.specs.Handed.{PartRows}

-- the vertices of the partition, what becomes of undeliverable messages, and the places to which the program
-- contributes
pub record Limits : Type 0 where
  pub rows : PartRows
  pub missing : Missing
  pub writes : ℕ

-- it was made as it should be, and it may be; or it may not be; or memory was refused
abbrev pub Within : {X : Type 0} → (X → Type 0) → Type 0 → Result X Unread → Type 0
Within IsMade MayBe (Ok x) = IsMade x × MayBe
Within IsMade MayBe (Err Damaged) = MayBe → ⊥
Within IsMade MayBe (Err Memory) = Unit {0}

-- whether messages may have made a vertex that runs in superstep s
abbrev pub is_made : Missing → ℕ → Bool
is_made Drop s = false
is_made Create s = not (s == 0)

-- whether a vertex may run in superstep s: one of the partition that the graph has; or, where messages make vertices,
-- any one of the partition, but in superstep 0
abbrev pub may_run : Limits → ℕ → ℕ → Bool
may_run limits s id =
    belongs limits.rows.partitions limits.rows.partition id
    && (is_some (row_at id limits.rows.graph) || is_made limits.missing s)

module _ {V M : Type 0} (limits : Limits) where
  -- a record of superstep s that a part of this partition may hold: its out-edges rise by target, and it contributes at
  -- places that the program has declared
  pub record MayHold (s : ℕ) (r : ℕ × Record V M) : Type 0 where
    pub runs : may_run limits s r.0 ≡ true
    pub edges_rise : IsRising r.1.edges
    pub places : list_all (λ c. has_place limits.writes c.0) r.1.contributed ≡ true

  -- the records of superstep s, by rising id
  pub record MayHoldAll (s : ℕ) (records : List (ℕ × Record V M)) : Type 0 where
    pub ids_rise : HasRisingIds records
    pub each : AllByRecursion (MayHold s) records

  -- the records of the supersteps from s on
  abbrev pub MayHoldFrom : ℕ → Supersteps V M → Type 0
  MayHoldFrom s [] = Unit {0}
  MayHoldFrom s (records ∷ later) = MayHoldAll s records × MayHoldFrom (suc s) later
