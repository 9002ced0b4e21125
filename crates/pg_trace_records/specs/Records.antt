-- The records of a superstep.
use Rattle.std.specs.Prelude.{ℕ, ℤ, not, List, map}
use Rattle.std.specs.List.{filter, flat_map}
use Rattle.pg_model.specs.declared.record.Record.{Record}

-- the ids of those that weren't halted by what they gave
abbrev pub unhalted_after : {V M : Type 0} → List (ℕ × Record V M) → List ℕ
unhalted_after records = map (λ r. r.0) (filter (λ r. not r.1.halted) records)

-- all contributions, by rising id and each vertex's in the order given
abbrev pub contributions_of : {V M : Type 0} → List (ℕ × Record V M) → List (ℕ × ℤ)
contributions_of records = flat_map (λ r. r.1.contributed) records
