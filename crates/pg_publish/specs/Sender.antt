-- What a publisher stands at.
use Rattle.std.specs.Prelude.{◌≡◌, ℕ, List, []}
use Rattle.logbook.specs.Pages.{Book}
use Rattle.pg_publish.specs.History.{Beginning}
use Rattle.pg_publish.specs.Views.{naming}
use Rattle.pg_publish.specs.declared.shown.KnownPrefix.{KnownPrefix}

-- which history it is, its entries, and how many readers were made
pub record Publishing (E : Type 0) : Type 0 where
  pub publisher : Book
  pub list : List E
  pub readers : ℕ

-- the history so far
abbrev pub told_of : {E : Type 0} → Publishing E → Beginning E
told_of p = record { publisher = p.publisher; list = p.list }

-- readers are shown all of the history, nothing waits to be shown, and the writer knows which history it is
pub record Shows {E : Type 0} (front shown : Beginning E) (pending : List (Beginning E))
    (known : KnownPrefix) : Type 0 where
  pub shown_is : shown ≡ front
  pub no_pending : pending ≡ []
  pub named : known ≡ naming front.publisher
