-- What an index has of each id: in which supersteps it ran.
use Rattle.std.specs.Prelude.{◌≡◌, ℕ, ◌+◌, nat_lt, Bool, cond, List, [], ◌∷◌, ◌++◌}
use Rattle.std.specs.Prelude.{Option, None, Some, is_some, unwrap_or}
use Rattle.std.specs.BTreeMap.{is_at}
use Rattle.std.specs.List.{filter}
use Rattle.std.specs.List.Sorted.{IsNonDecreasingBy}
use Rattle.std.specs.Ordering.{nat_cmp}
use Rattle.pg_map.specs.Entries.{value_at}

-- the supersteps below s, and those above it
abbrev pub steps_below : ℕ → List ℕ → List ℕ
steps_below s steps = filter (λ t. nat_lt t s) steps

abbrev pub steps_above : ℕ → List ℕ → List ℕ
steps_above s steps = filter (λ t. nat_lt s t) steps

-- rising supersteps, s among them or not, the others as they were
abbrev pub with_ran : ℕ → Bool → List ℕ → List ℕ
with_ran s runs steps = steps_below s steps ++ cond runs (s ∷ []) [] ++ steps_above s steps

-- the last of them
abbrev pub last_of : List ℕ → Option ℕ
last_of [] = None
last_of (step ∷ steps) = Some (unwrap_or (last_of steps) step)

-- the supersteps that are there, or none
abbrev pub steps_in : Option (List ℕ) → List ℕ
steps_in None = []
steps_in (Some steps) = steps

-- in an index the supersteps of each id rise
abbrev pub StepsRise : List (ℕ × List ℕ) → Type 0
StepsRise index = (id : ℕ) → IsNonDecreasingBy (λ t. t) (steps_in (value_at id index))

module _ {X : Type 0} where
  -- in which of these supersteps an id ran, where the first is superstep `from`
  abbrev pub ran_from : ℕ → ℕ → List (List (ℕ × X)) → List ℕ
  ran_from id from [] = []
  ran_from id from (records ∷ later) =
      cond (is_some (value_at id records)) (from ∷ ran_from id (from + 1) later) (ran_from id (from + 1) later)

  -- an index of the records of supersteps has of each id in which of them it ran
  abbrev pub IsIndex : List (List (ℕ × X)) → List (ℕ × List ℕ) → Type 0
  IsIndex records index = (id : ℕ) → steps_in (value_at id index) ≡ ran_from id 0 records

module _ {Y : Type 0} where
  -- the supersteps of an id once it is noted what superstep s gave it, and where nothing is said of it
  abbrev pub steps_noted : ℕ → Option (Option Y) → List ℕ → List ℕ
  steps_noted s None steps = steps
  steps_noted s (Some given) steps = with_ran s (is_some given) steps

  -- an index after notes of superstep s: to which ids it gave something, and to which nothing
  abbrev pub IsNoted : ℕ → List (ℕ × Option Y) → List (ℕ × List ℕ) → List (ℕ × List ℕ) → Type 0
  IsNoted s changes before after =
      (id : ℕ) → steps_in (value_at id after) ≡ steps_noted s (value_at id changes) (steps_in (value_at id before))

-- an index after a note of only one id, that it ran in superstep s or didn't
abbrev pub IsNotedOf : ℕ → ℕ → Bool → List (ℕ × List ℕ) → List (ℕ × List ℕ) → Type 0
IsNotedOf id s runs before after =
    (q : ℕ) → steps_in (value_at q after)
    ≡ cond (is_at (nat_cmp id) q) (with_ran s runs (steps_in (value_at id before))) (steps_in (value_at q before))
