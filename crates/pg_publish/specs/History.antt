-- The history of publications. It exists only in proofs; what threads share is its length.
use Rattle.std.specs.Prelude.{◌≡◌, ℕ, ◌-◌, ◌<◌, ◌==◌, true, List, [], ◌∷◌, ◌++◌, length, MatchBool, Option, slice_get}
use mathlib.Core.List.{IsPrefix}
use Rattle.logbook.specs.Pages.{Cell, Step, View, Book, Named}

-- which publisher's history it is, and a beginning of it
pub record Beginning (E : Type 0) : Type 0 where
  pub publisher : Book
  pub list : List E

-- the entry that was published last
abbrev pub last_of : {E : Type 0} → List E → Option E
last_of list = slice_get list (length list - 1)

-- the first list goes on in the second, and further
abbrev pub GoesFurther : {E : Type 0} → List E → List E → Type 0
GoesFurther shorter longer = IsPrefix shorter longer × (length shorter < length longer)

-- the rule of the shared words: the first is the length of the history. A history has two, and leaves the second at 0
abbrev pub Counts : {E : Type 0} → List Cell → List E → Type 0
Counts cells list = cells ≡ (length list, true) ∷ (0, true) ∷ []

-- what an exchange of the length tells: where it found what it sought, the entry stands behind all that was seen
abbrev pub Lengthens : {E : Type 0} → Step E → View E ℕ → ℕ → View E ℕ → Type 0
Lengthens s v found w = MatchBool (found == s.old) (w.0 ≡ v.0 ++ s.ask ∷ []) (Unit {0})

-- the word of a publisher that has the length
abbrev pub head_of : Book → Named
head_of publisher = record { tracked = true; key = 0; book = publisher }
