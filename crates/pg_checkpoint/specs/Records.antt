-- Which records have bytes, and how many out-edges they leave the vertices of their part.
use Rattle.std.specs.Prelude.{ℕ, ◌<◌, ◌^◌, ◌++◌, List, length, map, take, FitsSigned}
use Rattle.std.specs.FinMap.{from_entries, keys}
use Rattle.std.specs.Int.{w64}
use Rattle.std.specs.List.{AllByRecursion, flat_map, sum_by}
use Rattle.std.specs.Map.{keys_of}
use Rattle.std.specs.Option.{option_to_list}
use Rattle.std.specs.Ordering.{nat_cmp}
use Rattle.pg_model.specs.declared.configuration.VertexState.{VertexState}
use Rattle.pg_model.specs.declared.record.Record.{Record}
use Rattle.pg_part.specs.Part.{PartState}
use Rattle.pg_program.specs.Plain.{are_both, are_listed, is_byte, is_id}
use Rattle.pg_trace.specs.Trace.{state_at}

-- the records of supersteps from 0 on
abbrev pub Supersteps : Type 0 → Type 0 → Type 0
Supersteps V M = List (List (ℕ × Record V M))

module _ {V M : Type 0} (is_value : V → Type 0) (is_message : M → Type 0) where
  -- a record with numbers in their ranges, values of their types, and no list with more items than its count can tell
  pub record IsCodable (r : ℕ × Record V M) : Type 0 where
    pub id : is_id r.0
    pub value : is_value r.1.value
    pub edges : are_listed (are_both is_id (FitsSigned w64)) r.1.edges
    pub sent : are_listed (are_both is_id is_message) r.1.sent
    pub contributed : are_listed (are_both is_byte (FitsSigned w64)) r.1.contributed

  -- such records, and no more supersteps than their count can tell
  abbrev pub AreCodable : Supersteps V M → Type 0
  AreCodable records = (length records < 2 ^ 32) × AllByRecursion (are_listed IsCodable) records

module _ {V M : Type 0} where
  -- the ids of a part's vertices, those with which it began and those that ran, by rising id
  abbrev pub ids_behind : List (VertexState V) → Supersteps V M → List ℕ
  ids_behind initial records =
      keys (from_entries {R = nat_cmp}
      (map (λ id. (id, tt {0})) (map (λ x. x.id) initial ++ flat_map keys_of records)))

  -- their states behind these supersteps: each that of its last record, or else that with which it began
  abbrev pub states_behind : List (VertexState V) → Supersteps V M → List (VertexState V)
  states_behind initial records =
      flat_map (λ id. option_to_list (state_at id (length records) (record { initial = initial; records = records })))
      (ids_behind initial records)

  -- how many out-edges these have
  abbrev pub edges_behind : List (VertexState V) → Supersteps V M → ℕ
  edges_behind initial records = sum_by (λ x. length x.edges) (states_behind initial records)

-- what a part has recorded itself: the supersteps below its place
abbrev pub own_records : {V M : Type 0} → PartState V M → Supersteps V M
own_records part = take part.part_run.place part.part_run.trace.records
