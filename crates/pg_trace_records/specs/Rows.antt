-- Worked rows, by computation.
use Rattle.std.specs.Prelude.{◌≡◌, ℕ, ℤ, pos, true, false, List, [], ◌∷◌, Option, None, Some, refl}
use Rattle.pg_model.specs.declared.record.Record.{Record}
use Rattle.pg_trace_records.specs.RecordChanges.{given_at, given_to, given_flags}
use Rattle.pg_trace_records.specs.Parts.{changes_in}
use Rattle.pg_trace_records.specs.Records.{unhalted_after, contributions_of}
use Rattle.pg_trace_records.specs.declared.changes.Executed.{Executed}

abbrev gave : ℤ → Record ℤ ℤ
gave value = record { value = value; edges = []; halted = true; sent = (7, value) ∷ []; contributed = [] }

-- 3 is given a record, 5 has none any more
abbrev two : List (ℕ × Option (Record ℤ ℤ))
two = (3, Some (gave (pos 31))) ∷ (5, None) ∷ []

given_of_a_vertex : given_to 3 two ≡ Some (gave (pos 31))
given_of_a_vertex = refl

none_given : given_to 5 two ≡ None
none_given = refl

nothing_said : given_to 4 two ≡ None
nothing_said = refl

given_at_a_place : given_at 0 two ≡ Some (gave (pos 31))
given_at_a_place = refl

who_is_given : given_flags two ≡ (3, true) ∷ (5, false) ∷ []
who_is_given = refl

abbrev halted_with : ℕ → ℤ → Executed ℤ
halted_with first value = record {
  value = value;
  edges = [];
  halted = true;
  sent = record { first = first; count = 1 };
  contributed = record { first = 0; count = 0 };
}

-- what two of them sent lies side by side
side_by_side : changes_in ((7, pos 31) ∷ (7, pos 33) ∷ []) []
    ((3, Some (halted_with 0 (pos 31))) ∷ (5, None) ∷ (8, Some (halted_with 1 (pos 33))) ∷ [])
    ≡ (3, Some (gave (pos 31))) ∷ (5, None) ∷ (8, Some (gave (pos 33))) ∷ []
side_by_side = refl

unhalted_ones : unhalted_after ((3, gave (pos 1)) ∷ (4, record (gave (pos 2)) { halted = false }) ∷ []) ≡ 4 ∷ []
unhalted_ones = refl

abbrev adds : ℤ → Record ℤ ℤ
adds value = record (gave value) { contributed = (0, value) ∷ (2, pos 1) ∷ [] }

-- what each contributes stands in its order
all_contributions : contributions_of ((3, adds (pos 7)) ∷ (4, gave (pos 2)) ∷ (5, adds (pos 8)) ∷ [])
    ≡ (0, pos 7) ∷ (2, pos 1) ∷ (0, pos 8) ∷ (2, pos 1) ∷ []
all_contributions = refl
