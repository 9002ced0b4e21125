-- What the words of the command line ask for, by what `clap` finds in them.
use Rattle.std.proofs.Common.{◌≡◌, ◌⊎◌, true, List, [], Option, refl, sym, ap, subst, ◌∙◌, inl, inr}
use Rattle.clap.specs.Words.{App, IsAmong, Text, fault_of, is_simple, is_simple_and_free, matches_of, one_of, one_text, rows_of}
use Rattle.clap.specs.declared.error.kind.ErrorKind.{ErrorKind}
use Rattle.clap.specs.declared.error.kind.ErrorKind.TheVariants.{DisplayHelp, OutOfMemory}
use Rattle.clap.specs.declared.parser.matches.Found.{Found}
use Rattle.clap.proofs.OnLiterals.{clap_on_literals}
use Rattle.clap.proofs.WalkLemmas.{one_text-rows}
use Rattle.pregeld_args.specs.Arguments.{AskFor, HaveFault, OptionWords, Say, SayNothing, given, program}
use Rattle.pregeld_args.specs.declared.options.Options.{Options}

pub is_plain : (option_words : OptionWords) → is_simple_and_free (program option_words) ≡ true
unfolding program clap_on_literals
is_plain option_words = refl

simple : (option_words : OptionWords) → is_simple (program option_words) ≡ true
unfolding program clap_on_literals
simple option_words = refl

-- where this is the command, it is plain
pub plain_by : (app : App) (option_words : OptionWords) → app ≡ program option_words → is_simple_and_free app ≡ true
plain_by app option_words app_is = ap is_simple_and_free app_is ∙ is_plain option_words

pub simple_by : (app : App) (option_words : OptionWords) → app ≡ program option_words → is_simple app ≡ true
simple_by app option_words app_is = ap is_simple app_is ∙ simple option_words

module _ (app : App) (option_words : OptionWords) (app_is : app ≡ program option_words) (words : List Text) (found : Found)
    (rows_is : rows_of found ≡ matches_of app words) where
  text_is : (id : Text) → one_text found id ≡ given option_words words id
  text_is id = one_text-rows found id ∙ ap (one_of id) (rows_is ∙ ap (λ a. matches_of a words) app_is)

  texts_are : ◌≡◌ {A = Text → Option Text} (one_text found) (given option_words words)
  texts_are = λ i id. text_is id i

  -- what was read is what the words say
  pub asks : (options : Options) → fault_of app words ≡ [] → Say (one_text found) options → AskFor option_words words options
  asks options no_fault said = record {
    no_fault = ap (λ a. fault_of a words) (sym app_is) ∙ no_fault;
    said = subst (λ (texts : Text → Option Text). Say texts options) texts_are said;
  }

  -- where nothing was read, the words say nothing
  pub asks_nothing : fault_of app words ≡ [] → ((options : Options) → Say (one_text found) options → ⊥)
      → SayNothing option_words words
  asks_nothing no_fault none = record {
    no_fault = ap (λ a. fault_of a words) (sym app_is) ∙ no_fault;
    unsaid = λ options said. none options (subst (λ (texts : Text → Option Text). Say texts options) (sym texts_are) said);
  }

-- an error that shows help was asked for
pub help_asked : (app : App) (option_words : OptionWords) (words : List Text) (kind : ErrorKind) → app ≡ program option_words
    → kind ≡ DisplayHelp → (kind ≡ OutOfMemory) ⊎ IsAmong kind (fault_of app words)
    → IsAmong DisplayHelp (fault_of (program option_words) words)
help_asked app option_words words kind app_is kind_is (inl memory) = absurd (cc (sym kind_is ∙ memory))
help_asked app option_words words kind app_is kind_is (inr among) =
    subst (λ a. IsAmong DisplayHelp (fault_of a words)) app_is (subst (λ k. IsAmong k (fault_of app words)) kind_is among)

-- another error is a fault of the words
pub fault_found : (app : App) (option_words : OptionWords) (words : List Text) (kind : ErrorKind) → app ≡ program option_words
    → (kind ≡ OutOfMemory → ⊥) → (kind ≡ DisplayHelp → ⊥) → (kind ≡ OutOfMemory) ⊎ IsAmong kind (fault_of app words)
    → HaveFault option_words words
fault_found app option_words words kind app_is other no_help (inl memory) = absurd (other memory)
fault_found app option_words words kind app_is other no_help (inr among) =
    record { kind = kind; found = subst (λ a. IsAmong kind (fault_of a words)) app_is among; no_help = no_help }
