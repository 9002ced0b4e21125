-- The words of the program's command line, and what they ask for.
use Rattle.std.specs.Prelude.{◌≡◌, ◌≢◌, ◌⊎◌, ⊤, ℕ, ◌≤◌, true, List, [], ◌∷◌, map, Option, None}
use Rattle.std.specs.Prelude.{Some, codes, pos}
use Rattle.std.specs.List.{fold}
use Rattle.std.specs.Str.Parse.{IsNumeral, digits_value, without_leading_plus}
use Rattle.clap.specs.Words.{App, IsAmong, Rule, Text, fault_of, matches_of, new_app, new_rule}
use Rattle.clap.specs.Words.{one_of, with_rule}
use Rattle.clap.specs.declared.builder.action.ArgAction.TheVariants.{Set}
use Rattle.clap.specs.declared.builder.value_parser.ValueParser.{ValueParser}
use Rattle.clap.specs.declared.builder.value_parser.ValueParser.TheVariants.{Names, Unsigned}
use Rattle.clap.specs.declared.error.kind.ErrorKind.{ErrorKind}
use Rattle.clap.specs.declared.error.kind.ErrorKind.TheVariants.{DisplayHelp}
use Rattle.pg_global.specs.declared.combiner.AnyCombiner.{AnyCombiner}
use Rattle.pg_global.specs.declared.combiner.AnyCombiner.TheVariants.{NoCombiner, Min}
use Rattle.pg_global.specs.declared.combiner.AnyCombiner.TheVariants.{Max as MaxCombiner, Sum}
use Rattle.pg_graph.specs.declared.missing.Missing.{Missing}
use Rattle.pg_graph.specs.declared.missing.Missing.TheVariants.{Drop, Create}
use Rattle.pregeld_programs.specs.declared.ready.ReadyProgram.{ReadyProgram}
use Rattle.pregeld_programs.specs.declared.ready.ReadyProgram.TheVariants as ready
use Rattle.pregeld_args.specs.declared.names.ProgramName.{ProgramName}
use Rattle.pregeld_args.specs.declared.names.ProgramName.TheVariants.{Sssp, Cc, MaxValue, Indegree}
use Rattle.pregeld_args.specs.declared.names.ProgramName.TheVariants.{Pagerank, Peel}
use Rattle.pregeld_args.specs.declared.options.NoOptions.{NoOptions}
use Rattle.pregeld_args.specs.declared.options.NoOptions.TheVariants.{Help, Memory, Arguments}
use Rattle.pregeld_args.specs.declared.options.Options.{Options}
use denote.Ref.{Bor}

-- ---- the words for programs, combiners and policies

abbrev pub program_word : ProgramName → Text
program_word Sssp = codes "sssp"
program_word Cc = codes "cc"
program_word MaxValue = codes "max"
program_word Indegree = codes "indegree"
program_word Pagerank = codes "pagerank"
program_word Peel = codes "peel"

abbrev pub program_words : List Text
program_words = map program_word (Sssp ∷ Cc ∷ MaxValue ∷ Indegree ∷ Pagerank ∷ Peel ∷ [])

abbrev pub combiner_word : AnyCombiner → Text
combiner_word NoCombiner = codes "none"
combiner_word Min = codes "min"
combiner_word MaxCombiner = codes "max"
combiner_word Sum = codes "sum"

abbrev pub combiner_words : List Text
combiner_words = map combiner_word (NoCombiner ∷ Min ∷ MaxCombiner ∷ Sum ∷ [])

-- what becomes of undeliverable messages
abbrev pub missing_word : Missing → Text
missing_word Drop = codes "drop"
missing_word Create = codes "create"

abbrev pub missing_words : List Text
missing_words = map missing_word (Drop ∷ Create ∷ [])

-- ---- the options that the program takes

-- the words that an option may have
abbrev pub WordList : Type 0
WordList = Bor (List (Bor (List ℕ)))

abbrev pub AreWords : WordList → List Text → Type 0
AreWords words texts = map (λ word. word.now) words.now ≡ texts

-- the words that the options may have
pub record OptionWords : Type 0 where
  pub programs : WordList
  pub combiners : WordList
  pub policies : WordList

pub record AreOptionWords (words : OptionWords) : Type 0 where
  pub programs : AreWords words.programs program_words
  pub combiners : AreWords words.combiners combiner_words
  pub policies : AreWords words.policies missing_words

-- an option with one value
abbrev pub value_rule : Text → ValueParser → Rule
value_rule name parser =
    record (new_rule name) { long = Some name; action = Some Set; parser = Some parser }

-- an option with a number in a range, and its default
abbrev pub number_rule : Text → ℕ → ℕ → Text → Rule
number_rule name least greatest default =
    record (value_rule name (Unsigned least greatest)) { defaults = default ∷ [] }

-- an option with one of some words, and its default
abbrev pub word_rule : Text → WordList → Text → Rule
word_rule name words default = record (value_rule name (Names words)) { defaults = default ∷ [] }

-- the option that has to be there
abbrev pub program_rule : WordList → Rule
program_rule words = record (value_rule (codes "program") (Names words)) { required = true }

-- no number of the options is greater
abbrev pub source_limit : ℕ
source_limit = 9223372036854775807

abbrev pub k_limit : ℕ
k_limit = 1000000

abbrev pub rounds_limit : ℕ
rounds_limit = 10000

abbrev pub eps_limit : ℕ
eps_limit = 1000000000000

abbrev pub partition_limit : ℕ
partition_limit = 64

abbrev pub worker_limit : ℕ
worker_limit = 16

abbrev pub superstep_limit : ℕ
superstep_limit = 10000

abbrev pub every_limit : ℕ
every_limit = 1000

abbrev pub loss_limit : ℕ
loss_limit = 16

abbrev pub rules : OptionWords → List Rule
rules words =
    program_rule words.programs
    ∷ number_rule (codes "source") 0 source_limit (codes "1")
    ∷ number_rule (codes "k") 0 k_limit (codes "2")
    ∷ number_rule (codes "rounds") 0 rounds_limit (codes "30")
    ∷ number_rule (codes "eps") 0 eps_limit (codes "0")
    ∷ word_rule (codes "combiner") words.combiners (combiner_word NoCombiner)
    ∷ number_rule (codes "partitions") 1 partition_limit (codes "1")
    ∷ number_rule (codes "workers") 1 worker_limit (codes "1")
    ∷ number_rule (codes "limit") 1 superstep_limit (codes "1000")
    ∷ number_rule (codes "every") 0 every_limit (codes "0")
    ∷ number_rule (codes "losses") 0 loss_limit (codes "16")
    ∷ word_rule (codes "missing") words.policies (missing_word Drop)
    ∷ []

unfoldable pub program : OptionWords → App
program words = fold with_rule (new_app (codes "pregeld")) (rules words)

-- ---- what words ask for

-- a text, where there is one, writes a number
abbrev pub Writes : Option Text → ℕ → Type 0
Writes None number = ⊥
Writes (Some text) number =
    IsNumeral 10 (without_leading_plus text)
    × (number ≡ digits_value 10 (without_leading_plus text))

-- a text writes a number in a range
pub record WritesIn (text : Option Text) (least greatest number : ℕ) : Type 0 where
  pub writes : Writes text number
  pub from : least ≤ number
  pub to : number ≤ greatest

-- the numbers that runs are made with are within their limits
pub record AreInRange (options : Options) : Type 0 where
  pub some_partitions : 1 ≤ options.partitions
  pub few_partitions : options.partitions ≤ partition_limit
  pub some_workers : 1 ≤ options.workers
  pub few_workers : options.workers ≤ worker_limit
  pub some_supersteps : 1 ≤ options.limit
  pub few_supersteps : options.limit ≤ superstep_limit
  pub often_saved : options.every ≤ every_limit
  pub few_losses : options.losses ≤ loss_limit

-- the texts of the options say these
pub record Say (text_of : Text → Option Text) (options : Options) : Type 0 where
  pub program_is : text_of (codes "program") ≡ Some (program_word options.program)
  pub source_is : WritesIn (text_of (codes "source")) 0 source_limit options.source
  pub k_is : WritesIn (text_of (codes "k")) 0 k_limit options.k
  pub rounds_is : WritesIn (text_of (codes "rounds")) 0 rounds_limit options.rounds
  pub eps : ℕ
  pub eps_is : WritesIn (text_of (codes "eps")) 0 eps_limit eps
  pub eps_in : options.eps ≡ pos eps
  pub combiner_is : text_of (codes "combiner") ≡ Some (combiner_word options.combiner)
  pub partitions_are : WritesIn (text_of (codes "partitions")) 1 partition_limit options.partitions
  pub workers_are : WritesIn (text_of (codes "workers")) 1 worker_limit options.workers
  pub limit_is : WritesIn (text_of (codes "limit")) 1 superstep_limit options.limit
  pub every_is : WritesIn (text_of (codes "every")) 0 every_limit options.every
  pub losses_are : WritesIn (text_of (codes "losses")) 0 loss_limit options.losses
  pub missing_is : text_of (codes "missing") ≡ Some (missing_word options.missing)

module _ (option_words : OptionWords) (words : List Text) where
  -- the text that words give an option
  abbrev pub given : Text → Option Text
  given name = one_of name (matches_of (program option_words) words)

  -- the words have no fault, and say these options
  pub record AskFor (options : Options) : Type 0 where
    pub no_fault : fault_of (program option_words) words ≡ []
    pub said : Say given options

  -- the words have a fault, other than that they ask for help
  pub record HaveFault : Type 0 where
    pub kind : ErrorKind
    pub found : IsAmong kind (fault_of (program option_words) words)
    pub no_help : kind ≢ DisplayHelp

  -- the words have no fault, but say no options
  pub record SayNothing : Type 0 where
    pub no_fault : fault_of (program option_words) words ≡ []
    pub unsaid : (options : Options) → Say given options → ⊥

-- the words ask for runs with these options
pub record AsksForRuns (words : List Text) (options : Options) : Type 0 where
  pub option_words : OptionWords
  pub are_words : AreOptionWords option_words
  pub asked : AskFor option_words words options

-- the words ask for help
pub record AsksForHelp (words : List Text) : Type 0 where
  pub option_words : OptionWords
  pub are_words : AreOptionWords option_words
  pub asked : IsAmong DisplayHelp (fault_of (program option_words) words)

-- the words are at fault
pub record AreAtFault (words : List Text) : Type 0 where
  pub option_words : OptionWords
  pub are_words : AreOptionWords option_words
  pub faulty : HaveFault option_words words ⊎ SayNothing option_words words

-- why there are no options
abbrev pub Explains : List Text → NoOptions → Type 0
Explains words (Help error) = AsksForHelp words
Explains words Memory = ⊤
Explains words (Arguments error) = AreAtFault words

-- ---- the program that is asked for

-- the program of this name, with its options
abbrev pub program_in : ProgramName → Options → ReadyProgram
program_in Sssp options = ready.Sssp (record { source = options.source })
program_in Cc options = ready.Cc (record {})
program_in MaxValue options = ready.MaxValue (record {})
program_in Indegree options = ready.Indegree (record {})
program_in Pagerank options = ready.Pagerank (record { rounds = options.rounds; eps = options.eps })
program_in Peel options = ready.Peel (record { k = options.k })
