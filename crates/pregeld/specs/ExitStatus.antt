-- What the program promises with its exit status.
use Rattle.std.specs.Prelude.{◌≡◌, ◌⊎◌, ℕ, List, Option, IfSome}
use Rattle.std.specs.Io.KnownBytes.{Appends}
use Rattle.clap.specs.Words.{Text}
use Rattle.pregeld_args.specs.Arguments.{AreAtFault, AsksForHelp, AsksForRuns}
use Rattle.pregeld_args.specs.declared.options.Options.{Options}
use Rattle.pg_service.specs.Handed.{Book}
use Rattle.pg_service.specs.Service.{fresh}
use Rattle.pregeld.specs.AskedJob.{job_of_options}
use Rattle.pregeld.specs.Job.{ReadyState}
use Rattle.pregeld.specs.Session.{BreaksOff, Serves}
use Rattle.pregeld.specs.declared.session.ServeFault.{ServeFault}

-- a whole session of the job that the words ask for was served, where the bytes that there were are
-- known
pub record ServesWords (words : List Text) (remaining before now : Option (List ℕ)) : Type 0 where
  pub options : Options
  pub asked : AsksForRuns words options
  pub served : IfSome remaining (λ input. (publisher : Book) × (unread : ReadyState)
      × Serves input (fresh (job_of_options options) publisher) unread before now)

-- a fault broke off a session of the job that the words ask for, where the bytes that there were
-- are known
pub record BreaksOffWords (words : List Text)
    (remaining before now : Option (List ℕ)) : Type 0 where
  pub options : Options
  pub asked : AsksForRuns words options
  pub fault : ServeFault
  pub broken : IfSome remaining (λ input. (publisher : Book) × (unread : ReadyState)
      × BreaksOff fault input (fresh (job_of_options options) publisher) unread before now)

-- a text was added to what was written, where that is known
abbrev pub AddsText : Option (List ℕ) → Option (List ℕ) → Type 0
AddsText before now = (text : List ℕ) × Appends before now text

module _ {R W : Type 0} (remaining : R → Option (List ℕ)) (contents : W → Option (List ℕ)) where
  module _ (words : List Text) (reader unread : R) (writer written : W) where
    -- nothing was read or written
    abbrev pub IsUntouched : Type 0
    IsUntouched = (unread ≡ reader) × (written ≡ writer)

    -- status 0: help was asked for, nothing was read, and a text was written; or a whole session
    -- was served
    abbrev pub EndsWell : Type 0
    EndsWell =
        (AsksForHelp words × (unread ≡ reader) × AddsText (contents writer) (contents written))
        ⊎ ServesWords words (remaining reader) (contents writer) (contents written)

    -- status 1: help was asked for, and nothing was read; there was no memory for the words, and
    -- nothing was read or written; or a session was broken off
    abbrev pub EndsBroken : Type 0
    EndsBroken =
        ((AsksForHelp words × (unread ≡ reader)) ⊎ IsUntouched)
        ⊎ BreaksOffWords words (remaining reader) (contents writer) (contents written)

    -- status 2: the words are at fault, and nothing was read or written
    abbrev pub IsRefused : Type 0
    IsRefused = AreAtFault words × IsUntouched
