-- What a line asks for.
use Rattle.std.specs.Prelude.{ℕ, Bool, ◌==◌, nat_lt, if◌then◌else◌, List, [], ◌∷◌, Option, None}
use Rattle.std.specs.Prelude.{Some, Result, Ok, Err, codes}
use Rattle.std.specs.Char.{is_ascii}
use Rattle.std.specs.Str.{bytes_eq}
use Rattle.std.specs.List.{list_all}
use Rattle.pg_import.specs.Import.{begins_with}
use Rattle.pg_import.specs.Number.{id_of}
use Rattle.pg_import.specs.Text.{line_of, words_of}
use Rattle.pg_import.specs.declared.line.ImportKind.{ImportKind}
use Rattle.pg_graph.specs.Handed.{Edit as OneEdit}
use Rattle.pregeld_commands.specs.Edits.{edge_of, given, in_place, input_of, reweigh_of, unedge_of}
use Rattle.pregeld_commands.specs.Edits.{unvertex_of, vertex_of}
use Rattle.pregeld_commands.specs.declared.command.Command.{Command}
use Rattle.pregeld_commands.specs.declared.command.Command.TheVariants.{Nothing, Edit, Act, Ask}
use Rattle.pregeld_commands.specs.declared.command.Action.TheVariants.{Commit, Import, Refresh, Recompute}
use Rattle.pregeld_commands.specs.declared.command.Query.TheVariants.{Aggregate, Dump, Get, Reported}
use Rattle.pregeld_commands.specs.declared.command.Form.{Form}
use Rattle.pregeld_commands.specs.declared.command.Form.TheVariants.{List as ListForm, Csv}
use Rattle.pregeld_commands.specs.declared.command.LineFault.{LineFault}
use Rattle.pregeld_commands.specs.declared.command.LineFault.TheVariants.{NoCommand, WordCount, BadWord}

-- no import has more lines
abbrev pub line_limit : ℕ
line_limit = 100000

-- the form that a word names
abbrev pub form_of : List ℕ → Option Form
form_of word =
    if bytes_eq word (codes "list") then Some ListForm
    else if bytes_eq word (codes "csv") then Some Csv
    else None

-- an import in this form, where the number of its lines is one, and not too large
abbrev pub import_in : Option Form → Result ℕ ImportKind → Result Command LineFault
import_in None number = Err BadWord
import_in (Some form) (Err kind) = Err BadWord
import_in (Some form) (Ok number) =
    if nat_lt line_limit number then Err BadWord else Ok (Act (Import form number))

-- the words after `import`: a form and a number of lines
unfoldable pub import_of : List (List ℕ) → Result Command LineFault
import_of [] = Err WordCount
import_of (form ∷ []) = Err WordCount
import_of (form ∷ number ∷ []) = import_in (form_of form) (id_of number)
import_of (form ∷ number ∷ more ∷ words) = Err WordCount

-- the word after `get`: an id
unfoldable pub get_of : List (List ℕ) → Result Command LineFault
get_of [] = Err WordCount
get_of (id ∷ []) = given (in_place (id_of id)) (λ v. Ok (Ask (Get v)))
get_of (id ∷ more ∷ words) = Err WordCount

-- the word after `agg`: a name
unfoldable pub agg_of : List (List ℕ) → Result Command LineFault
agg_of [] = Err WordCount
agg_of (name ∷ []) = Ok (Ask (Aggregate name))
agg_of (name ∷ more ∷ words) = Err WordCount

-- a command that has no words after it
unfoldable pub no_arguments : Command → List (List ℕ) → Result Command LineFault
no_arguments command [] = Ok command
no_arguments command (word ∷ words) = Err WordCount

-- the edit that a first word names, with the words after it
unfoldable pub edit_named : List ℕ → List (List ℕ) → Result OneEdit LineFault
edit_named first words =
    if bytes_eq first (codes "vertex") then vertex_of words
    else if bytes_eq first (codes "input") then input_of words
    else if bytes_eq first (codes "unvertex") then unvertex_of words
    else if bytes_eq first (codes "edge") then edge_of words
    else if bytes_eq first (codes "reweigh") then reweigh_of words
    else if bytes_eq first (codes "unedge") then unedge_of words
    else Err NoCommand

-- the command that a first word names, with the words after it
unfoldable pub named : List ℕ → List (List ℕ) → Result Command LineFault
named first words =
    if bytes_eq first (codes "import") then import_of words
    else if bytes_eq first (codes "commit") then no_arguments (Act Commit) words
    else if bytes_eq first (codes "refresh") then no_arguments (Act Refresh) words
    else if bytes_eq first (codes "check") then no_arguments (Act Recompute) words
    else if bytes_eq first (codes "dump") then no_arguments (Ask Dump) words
    else if bytes_eq first (codes "report") then no_arguments (Ask Reported) words
    else if bytes_eq first (codes "get") then get_of words
    else if bytes_eq first (codes "agg") then agg_of words
    else given (edit_named first words) (λ edit. Ok (Edit edit))

-- the command of words: none asks for nothing, nor does a comment, which begins with `#`; a command
-- has no byte above 127
unfoldable pub command_in : Bool → List (List ℕ) → Result Command LineFault
command_in plain [] = Ok Nothing
command_in plain (first ∷ words) =
    if begins_with (λ b. b == 35) first then Ok Nothing
    else if plain then named first words
    else Err NoCommand

-- the command of a line, which may end in its line feed
abbrev pub command_of : List ℕ → Result Command LineFault
command_of line = command_in (list_all is_ascii (line_of line)) (words_of (line_of line))
