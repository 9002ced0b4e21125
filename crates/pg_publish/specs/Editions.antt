-- The editions along a list of publications.
use Rattle.std.specs.Prelude.{◌≡◌, ℕ, ◌≤◌, List, Some, slice_get}
use mathlib.Core.List.{IsPrefix}
use Rattle.pg_publish.specs.History.{last_of}
use Rattle.pg_publish.specs.Answers.{Answered}

-- no edition is below one before it
abbrev pub NeverGoesBack : {V : Type 0} → List (Answered V) → Type 0
NeverGoesBack {V} list = (i j : ℕ) (a b : Answered V) → i ≤ j → slice_get list i ≡ Some a → slice_get list j ≡ Some b
    → a.publication.edition ≤ b.publication.edition

-- where editions never go back, a reader that has seen more doesn't look at an earlier edition
abbrev pub LooksNeverGoBack : Type 0 → Type 0
LooksNeverGoBack V = (earlier later : List (Answered V)) → IsPrefix earlier later → NeverGoesBack later
    → NeverGoesBack earlier × ((a b : Answered V) → last_of earlier ≡ Some a → last_of later ≡ Some b
    → a.publication.edition ≤ b.publication.edition)
