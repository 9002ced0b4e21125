-- What the seats of readers and of the publisher know: which history they look at.
use Rattle.std.specs.Prelude.{◌≡◌, ℕ, true, false, List}
use mathlib.Core.Option.{some}
use lib.ListN.{get_elem?}
use Rattle.logbook.specs.Pages.{Book}
use Rattle.pg_publish.specs.declared.shown.KnownPrefix.{KnownPrefix}

-- it knows none
abbrev pub nameless : KnownPrefix
nameless = record { named = false; number = 0; log_name = 0; cells_name = 0 }

-- it knows this one
abbrev pub naming : Book → KnownPrefix
naming publisher = record {
  named = true;
  number = publisher.number;
  log_name = publisher.log_name;
  cells_name = publisher.cells_name;
}

-- what is known, if anything, is this history
abbrev pub NamesNoOther : Book → KnownPrefix → Type 0
NamesNoOther publisher known = known.named ≡ true → known ≡ naming publisher

-- no seat knows another history
abbrev pub AllName : Book → List KnownPrefix → Type 0
AllName publisher knowns = (seat : ℕ) (known : KnownPrefix) → get_elem? knowns seat ≡ some known
    → NamesNoOther publisher known

-- a step at which the history is found, and known from then on
abbrev pub Finds : KnownPrefix → Book → KnownPrefix → Type 0
Finds before publisher after = NamesNoOther publisher before × (after ≡ naming publisher)
