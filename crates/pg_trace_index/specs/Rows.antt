-- Worked rows, by computation.
use Rattle.std.specs.Prelude.{◌≡◌, ℕ, true, false, List, [], ◌∷◌, None, Some, refl}
use Rattle.pg_trace_index.specs.Occurrences.{ran_from, with_ran}
use Rattle.pg_trace_index.specs.Records.{last_record, put_at}

-- 3 and 5 run, then only 5, then 5 and 7
abbrev three : List (List (ℕ × ℕ))
three = ((3, 31) ∷ (5, 51) ∷ []) ∷ ((5, 52) ∷ []) ∷ ((5, 53) ∷ (7, 70) ∷ []) ∷ []

ran_in : ran_from 5 0 three ≡ 0 ∷ 1 ∷ 2 ∷ []
ran_in = refl

ran_less : with_ran 1 false (0 ∷ 1 ∷ 2 ∷ []) ≡ 0 ∷ 2 ∷ []
ran_less = refl

ran_more : with_ran 1 true (0 ∷ 2 ∷ []) ≡ 0 ∷ 1 ∷ 2 ∷ []
ran_more = refl

last_of_all : last_record 5 three ≡ Some 53
last_of_all = refl

last_where_it_ran : last_record 3 three ≡ Some 31
last_where_it_ran = refl

put_in_the_middle : put_at 1 ((3, Some 33) ∷ (5, None) ∷ []) three
    ≡ ((3, 31) ∷ (5, 51) ∷ []) ∷ ((3, 33) ∷ []) ∷ ((5, 53) ∷ (7, 70) ∷ []) ∷ []
put_in_the_middle = refl

put_as_the_next : put_at 3 ((3, Some 34) ∷ []) three
    ≡ ((3, 31) ∷ (5, 51) ∷ []) ∷ ((5, 52) ∷ []) ∷ ((5, 53) ∷ (7, 70) ∷ []) ∷ ((3, 34) ∷ []) ∷ []
put_as_the_next = refl
