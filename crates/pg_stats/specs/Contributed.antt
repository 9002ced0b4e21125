-- What a vertex contributes in a superstep, and whether it does so in two runs.
use Rattle.std.specs.Prelude.{ℕ, List, [], ℤ, Bool, Option, None, Some, ◌==◌, ◌&&◌}
use Rattle.std.specs.Cmp.Lexicographic.{pointwise}
use Rattle.std.specs.Ordering.{int_eq}
use Rattle.pg_model.specs.declared.record.Record.{Record}
use Rattle.pg_trace.specs.Trace.{Trace, record_at}

-- the same places and values, one by one
abbrev pub are_same : List (ℕ × ℤ) → List (ℕ × ℤ) → Bool
are_same xs ys = pointwise (λ a b. (a.0 == b.0) && int_eq a.1 b.1) xs ys

module _ {V M : Type 0} where
  -- what a vertex contributed, where it ran
  abbrev pub contributed_by : Option (Record V M) → List (ℕ × ℤ)
  contributed_by None = []
  contributed_by (Some r) = r.contributed

  -- two traces have the same contributions of a vertex in superstep s
  abbrev pub contributes_alike : Trace V M → Trace V M → ℕ → ℕ → Bool
  contributes_alike old new s id = are_same (contributed_by (record_at id s old)) (contributed_by (record_at id s new))
