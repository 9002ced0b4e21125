-- The bytes of a checkpoint, in both formats (this project's). All numbers stand with their lowest byte first.
use Rattle.std.specs.Prelude.{ℕ, ◌+◌, [], ◌∷◌, ◌++◌, ℤ, List, length}
use Rattle.std.specs.Int.{w32, to_le_bytes}
use Rattle.std.specs.List.{flat_map}
use Rattle.pg_model.specs.declared.record.Record.{Record}
use Rattle.pg_program.specs.Coding.{byte_coding, integer_coding, list_coding, natural_coding, pair_coding, truth_coding}

-- a number in four bytes
abbrev pub half_coding : ℕ → List ℕ
half_coding n = to_le_bytes w32 n

-- an out-edge: target and weight
abbrev pub edge_coding : ℕ × ℤ → List ℕ
edge_coding = pair_coding natural_coding integer_coding

-- a message that was sent: target and message
abbrev pub sent_coding : {M : Type 0} → (M → List ℕ) → ℕ × M → List ℕ
sent_coding message = pair_coding natural_coding message

-- a contribution: place, in one byte, and value
abbrev pub contributed_coding : ℕ × ℤ → List ℕ
contributed_coding = pair_coding byte_coding integer_coding

module _ {V M : Type 0} (value : V → List ℕ) (message : M → List ℕ) where
  -- a vertex that ran: its id, and what its execution gave
  abbrev pub record_coding : ℕ × Record V M → List ℕ
  record_coding r =
      natural_coding r.0 ++ (truth_coding r.1.halted ++ (value r.1.value ++ (list_coding edge_coding r.1.edges
      ++ (list_coding (sent_coding message) r.1.sent ++ list_coding contributed_coding r.1.contributed))))

  -- the records of a superstep
  abbrev pub superstep_coding : List (ℕ × Record V M) → List ℕ
  superstep_coding records = list_coding record_coding records

  -- what stands behind the length in format 1: run, partition, how many supersteps, and their records
  abbrev pub first_rest : ℕ → ℕ → List (List (ℕ × Record V M)) → List ℕ
  first_rest run partition records =
      natural_coding run ++ (half_coding partition
      ++ (half_coding (length records) ++ flat_map superstep_coding records))

  -- in format 2: the same, with how many out-edges the vertices have before the records
  abbrev pub second_rest : ℕ → ℕ → ℕ → List (List (ℕ × Record V M)) → List ℕ
  second_rest run partition edges records =
      natural_coding run ++ (half_coding partition ++ (half_coding (length records)
      ++ (natural_coding edges ++ flat_map superstep_coding records)))

-- four characters, how many bytes the whole has, and the rest
abbrev pub framed : List ℕ → List ℕ → List ℕ
framed magic rest = magic ++ (natural_coding (12 + length rest) ++ rest)

-- the magic PGC1, and PGC2
abbrev pub first_magic : List ℕ
first_magic = 80 ∷ 71 ∷ 67 ∷ 49 ∷ []

abbrev pub second_magic : List ℕ
second_magic = 80 ∷ 71 ∷ 67 ∷ 50 ∷ []

module _ {V M : Type 0} (value : V → List ℕ) (message : M → List ℕ) where
  abbrev pub first_coding : ℕ → ℕ → List (List (ℕ × Record V M)) → List ℕ
  first_coding run partition records = framed first_magic (first_rest value message run partition records)

  abbrev pub second_coding : ℕ → ℕ → ℕ → List (List (ℕ × Record V M)) → List ℕ
  second_coding run partition edges records =
      framed second_magic (second_rest value message run partition edges records)
