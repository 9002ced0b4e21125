-- Records of which what was sent lies in one list, and what was contributed in another.
use Rattle.std.specs.Prelude.{◌≡◌, ℕ, ℤ, ◌+◌, ◌++◌, ◌≤◌, replicate, List, length, take, drop, map, Option, None, Some}
use Rattle.std.specs.List.{AllByRecursion}
use Rattle.std.specs.Option.{option_map}
use Rattle.pg_model.specs.declared.record.Record.{Record}
use Rattle.pg_trace_records.specs.declared.changes.Executed.{Executed}
use Rattle.pg_trace_records.specs.declared.changes.Extent.{Extent}

module _ {X : Type 0} where
  -- so many items of a list, from a place on
  abbrev pub part_of : Extent → List X → List X
  part_of part items = take part.count (drop part.first items)

  abbrev pub IsPart : Extent → List X → Type 0
  IsPart part items = part.first + part.count ≤ length items

module _ {V M : Type 0} (sent : List (ℕ × M)) (contributed : List (ℕ × ℤ)) where
  -- the record of an execution that produced this
  abbrev pub record_in : Executed V → Record V M
  record_in produced = record {
    value = produced.value;
    edges = produced.edges;
    halted = produced.halted;
    sent = part_of produced.sent sent;
    contributed = part_of produced.contributed contributed;
  }

  abbrev pub changes_in : List (ℕ × Option (Executed V)) → List (ℕ × Option (Record V M))
  changes_in entries = map (λ e. (e.0, option_map record_in e.1)) entries

  -- its parts lie within the lists
  abbrev pub IsWithin : Option (Executed V) → Type 0
  IsWithin None = Unit {0}
  IsWithin (Some produced) = IsPart produced.sent sent × IsPart produced.contributed contributed

  abbrev pub AreWithin : List (ℕ × Option (Executed V)) → Type 0
  AreWithin entries = AllByRecursion (λ e. IsWithin e.1) entries

-- a sender more for each message of an execution, which are the next ones
abbrev pub AddsSenders : {V : Type 0} → ℕ → Option (Executed V) → List ℕ → List ℕ → Type 0
AddsSenders id None before after = after ≡ before
AddsSenders id (Some produced) before after =
    (produced.sent.first ≡ length before) × (after ≡ before ++ replicate produced.sent.count id)
