-- Worked rows, by computation.
use Rattle.std.specs.Prelude.{◌≡◌, ℕ, ℤ, pos, true, false, [], ◌∷◌, None, Some, refl}
use Rattle.pg_model.specs.declared.configuration.VertexState.{VertexState}
use Rattle.pg_model.specs.declared.record.Record.{Record}
use Rattle.pg_trace.specs.Trace.{Trace, first_supersteps, record_at, state_at, with_replaced, with_superstep}

abbrev began : ℕ → ℤ → VertexState ℤ
began id value = record { id = id; value = value; edges = []; halted = false }

abbrev halted_with : ℕ → ℤ → VertexState ℤ
halted_with id value = record { id = id; value = value; edges = []; halted = true }

abbrev gave : ℤ → Record ℤ ℤ
gave value = record { value = value; edges = []; halted = true; sent = []; contributed = [] }

-- 3 and 5 run, then only 5, then 5 and 7, which a message makes
abbrev three : Trace ℤ ℤ
three = record {
  initial = began 3 (pos 30) ∷ began 5 (pos 50) ∷ [];
  records = ((3, gave (pos 31)) ∷ (5, gave (pos 51)) ∷ []) ∷ ((5, gave (pos 52)) ∷ [])
      ∷ ((5, gave (pos 53)) ∷ (7, gave (pos 70)) ∷ []) ∷ [];
}

state_at_first : state_at 3 0 three ≡ Some (began 3 (pos 30))
state_at_first = refl

state_between : state_at 3 2 three ≡ Some (halted_with 3 (pos 31))
state_between = refl

state_of_the_last_before : state_at 5 2 three ≡ Some (halted_with 5 (pos 52))
state_of_the_last_before = refl

none_before_it_is_made : state_at 7 2 three ≡ None
none_before_it_is_made = refl

made_by_its_record : state_at 7 3 three ≡ Some (halted_with 7 (pos 70))
made_by_its_record = refl

record_of_its_superstep : record_at 3 1 three ≡ None
record_of_its_superstep = refl

cut_forgets : state_at 5 3 (first_supersteps 1 three) ≡ Some (halted_with 5 (pos 51))
cut_forgets = refl

replaced_in_the_middle : state_at 5 2 (with_replaced 1 ((3, Some (gave (pos 33))) ∷ (5, None) ∷ []) three)
    ≡ Some (halted_with 5 (pos 51))
replaced_in_the_middle = refl

replaced_and_kept : state_at 5 3 (with_replaced 1 ((3, Some (gave (pos 33))) ∷ (5, None) ∷ []) three)
    ≡ Some (halted_with 5 (pos 53))
replaced_and_kept = refl

pushed : record_at 3 3 (with_superstep ((3, gave (pos 34)) ∷ []) three) ≡ Some (gave (pos 34))
pushed = refl
