-- The runs of vertices in a log: of each vertex the last one, and in one list those before, each found from the one
-- after it.
use Rattle.std.specs.Prelude.{ℕ, zero, suc, ◌≤◌, nat_eq, nat_lt, cond, List, [], ◌∷◌, length, map, reverse}
use Rattle.std.specs.Prelude.{slice_index_or, Option, None, Some}
use Rattle.std.specs.List.{AllByRecursion}
use Rattle.pg_trace_index.specs.declared.log.LogEntry.{LogEntry}

abbrev pub no_run : LogEntry
no_run = record { run = record { superstep = 0; place = 0 }; before = 0 }

-- the supersteps of the last of so many entries and of those before it, the latest first, among the first n of a list
abbrev pub back : List LogEntry → ℕ → ℕ → List ℕ
back log zero at = []
back log (suc n) at =
    let entry = slice_index_or log n no_run in
    cond (nat_eq at (suc n)) (entry.run.superstep ∷ back log n entry.before) (back log n at)

-- the first of them that is below one
abbrev pub first_below : ℕ → List ℕ → Option ℕ
first_below s [] = None
first_below s (step ∷ steps) = cond (nat_lt step s) (Some step) (first_below s steps)

-- the supersteps of a run and of those before it
abbrev pub chain : List LogEntry → LogEntry → List ℕ
chain log last = reverse (last.run.superstep ∷ back log (length log) last.before)

-- those of each vertex
abbrev pub chains : List LogEntry → List (ℕ × LogEntry) → List (ℕ × List ℕ)
chains log last = map (λ e. (e.0, chain log e.1)) last

-- the run before each stands in the list
abbrev pub AreWithin : List LogEntry → List (ℕ × LogEntry) → Type 0
AreWithin log last = AllByRecursion (λ e. e.1.before ≤ length log) last
