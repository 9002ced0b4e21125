-- The steps of a publisher and its readers, in any order: who takes each, and what it changes. A reader that is made
-- late enters as it is made.
use Rattle.std.specs.Prelude.{ℕ, ◌==◌, if◌then◌else◌, List, [], ◌∷◌, ◌++◌, length, nat_lt, fold, Contains}
use mathlib.Core.List.{IsPrefix}

-- what the publisher has published, what each reader has seen of it, and the lists that were announced
pub record PublicationState (E : Type 0) : Type 0 where
  pub list : List E
  pub seen : ℕ → List E
  pub told : List (List E)

pub data Step (E : Type 0) : Type 0 where
  publishes : E → Step E
  tells : Step E
  enters : ℕ → List E → Step E
  learns : ℕ → List E → Step E

module _ {E : Type 0} where
  -- at first nothing is published, seen or told
  abbrev pub first : PublicationState E
  first = record { list = []; seen = λ reader. []; told = [] }

  -- the list with an entry more, at its end
  abbrev pub with_next : List E → E → List E
  with_next list entry = list ++ entry ∷ []

  abbrev pub longer : List E → List E → List E
  longer xs ys = if nat_lt (length xs) (length ys) then ys else xs

  -- what is shown begins with what was seen
  abbrev pub ShowsOn : List E → List E → Type 0
  ShowsOn seen shown = IsPrefix seen shown

  -- this reader has seen `now`, and the others what they had
  abbrev pub sees : ℕ → List E → (ℕ → List E) → ℕ → List E
  sees reader now seen other = if other == reader then now else seen other

  -- what a step changes
  abbrev pub after : PublicationState E → Step E → PublicationState E
  -- the publisher: its list gets one entry at the end
  after s (publishes entry) = record s { list = with_next s.list entry }
  -- the publisher: its list is handed out
  after s tells = record s { told = s.told ++ s.list ∷ [] }
  -- one reader: its seen list becomes the list that is shown to it
  after s (enters reader shown) = record s { seen = sees reader shown s.seen }
  -- one reader: its seen list becomes the longer of it and the told list
  after s (learns reader told) = record s { seen = sees reader (longer (s.seen reader) told) s.seen }

  -- when a step may be taken
  abbrev pub May : PublicationState E → Step E → Type 0
  -- what is shown to a reader begins with what it had seen, and is a beginning of what is published
  May s (enters reader shown) = ShowsOn (s.seen reader) shown × IsPrefix shown s.list
  -- only what was told is learned
  May s (learns reader told) = Contains s.told told
  May s _ = Unit {0}

  abbrev pub MayAll : PublicationState E → List (Step E) → Type 0
  MayAll s [] = Unit {0}
  MayAll s (step ∷ steps) = May s step × MayAll (after s step) steps

  -- each list that a reader has seen, or that was told, is a beginning of what is published
  pub record AllBegin (s : PublicationState E) : Type 0 where
    pub seen : (reader : ℕ) → IsPrefix (s.seen reader) s.list
    pub told : (told : List E) → Contains s.told told → IsPrefix told s.list

  -- nothing that was published is taken back, and no reader sees less than before
  pub record GoesOn (s t : PublicationState E) : Type 0 where
    pub list : IsPrefix s.list t.list
    pub seen : (reader : ℕ) → IsPrefix (s.seen reader) (t.seen reader)

-- whatever steps are taken: all that was seen and told are beginnings of what is published, and further steps go on
abbrev pub ReadersSeeBeginnings : Type 0 → Type 0
ReadersSeeBeginnings E = (steps more : List (Step E)) → MayAll first steps → let now : PublicationState E =
    fold after first steps in
    AllBegin now × (MayAll now more → GoesOn now (fold after now more))
