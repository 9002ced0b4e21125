-- What was published: editions with their answers, in a list that only grows at its end.
use Rattle.std.specs.Prelude.{◌≡◌, ℕ, List, ◌++◌}
use Rattle.pg_model.specs.declared.run.Run.{Run}

-- an edition of the graph, and the answer of the run on it
pub record Publication (V : Type 0) : Type 0 where
  pub edition : ℕ
  pub answer : Run V

abbrev pub Publications : Type 0 → Type 0
Publications V = List (Publication V)

-- `later` begins with all of `earlier`
pub record Begins {V : Type 0} (earlier later : Publications V) : Type 0 where
  pub more : Publications V
  pub whole : later ≡ earlier ++ more
