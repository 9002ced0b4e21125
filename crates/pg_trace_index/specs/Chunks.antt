-- How the notes lie in memory: values by rising id, in chunks of which each knows its first id.
use Rattle.std.specs.Prelude.{◌≡◌, ℕ, ◌+◌, ◌<◌, nat_le, true, false, List, length, slice_index_or}
use Rattle.std.specs.List.{AllByRecursion, HoldsAt, flat_map}
use Rattle.std.specs.List.Sorted.{IsPartitionPoint}
use Rattle.std.specs.Ordering.{nat_cmp}
use Rattle.std.specs.declared.cmp.Ordering.TheVariants.{Equal}
use Rattle.pg_map.specs.Chunks.{StartsAt}
use Rattle.pg_map.specs.Entries.{HasRisingIds}
use Rattle.pg_trace_index.specs.declared.chunk.Chunk.{Chunk}

abbrev pub listed : {X : Type 0} → Chunk X → List (ℕ × X)
listed chunk = chunk.entries.items

abbrev pub all_of : {X : Type 0} → List (Chunk X) → List (ℕ × X)
all_of chunks = flat_map listed chunks

-- each has a first entry, at the id that it knows
abbrev pub Start : {X : Type 0} → List (Chunk X) → Type 0
Start chunks = AllByRecursion (λ chunk. StartsAt chunk.first (listed chunk)) chunks

pub record AreSound {X : Type 0} (chunks : List (Chunk X)) : Type 0 where
  pub start : Start chunks
  pub rise : HasRisingIds (all_of chunks)

-- the value at an id stands in chunk m, at place p there
pub record IsAt {X : Type 0} (id : ℕ) (chunks : List (Chunk X)) (m p : ℕ) : Type 0 where
  pub chunk : m < length chunks
  pub begun : IsPartitionPoint (λ c. nat_le c.first id ≡ true) (λ c. nat_le c.first id ≡ false) chunks (m + 1)
  pub place : (c : Chunk X) → c ≡ slice_index_or chunks m c → p < length (listed c)
  pub here : (c : Chunk X) → c ≡ slice_index_or chunks m c → HoldsAt (λ e. nat_cmp e.0 id ≡ Equal) (listed c) p
