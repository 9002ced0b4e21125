-- The texts of answers.
use Rattle.std.specs.Prelude.{ℕ, ℤ, List, [], ◌∷◌, ◌++◌, length, flat_map, Option, None, Some}
use Rattle.std.specs.Prelude.{decimal, codes}
use Rattle.std.specs.Fmt.{signed_decimal}
use Rattle.pg_graph.specs.Handed.{number_of as edit_number}
use Rattle.pg_import.specs.ImportKind as import
use Rattle.pg_service.specs.declared.report.Report.{Report}
use Rattle.pregeld_commands.specs.LineFault.{fault_number}
use Rattle.pregeld.specs.declared.reply.Reply.{Reply}
use Rattle.pregeld.specs.declared.reply.Reply.TheVariants.{Edition, ImportRefused, BatchRefused}
use Rattle.pregeld.specs.declared.reply.Reply.TheVariants.{Refreshed, RunRefused, Checked}
use Rattle.pregeld.specs.declared.reply.Reply.TheVariants.{Unpublished, Value, NoValue, End, Fault}
use Rattle.pregeld.specs.declared.reply.RefreshSummary.{RefreshSummary}
use Rattle.pg_service.specs.Printed.{check_text, ending_name}

-- what the answer to a refresh tells of its report
abbrev pub summary_of : Report → RefreshSummary
summary_of report = record {
  edition = report.edition;
  supersteps = report.supersteps;
  ending = report.ending;
  calls = report.calls;
  losses = length report.losses;
}

-- the answer to a refresh, without its line feed
unfoldable pub summary_text : RefreshSummary → List ℕ
summary_text summary =
    codes "refreshed edition " ++ (decimal summary.edition
    ++ (codes " supersteps " ++ (decimal summary.supersteps
    ++ (codes " ending " ++ (ending_name summary.ending
    ++ (codes " calls " ++ (decimal summary.calls
    ++ (codes " losses " ++ decimal summary.losses))))))))

-- an answer, without its line feed
unfoldable pub text_of : Reply → List ℕ
text_of (Edition edition) = codes "edition " ++ decimal edition
text_of (ImportRefused fault) =
    codes "import refused " ++ decimal (import.number_of fault.kind)
    ++ codes " line " ++ decimal fault.line
text_of (BatchRefused fault) =
    codes "refused " ++ decimal (edit_number fault.kind)
    ++ codes " position " ++ decimal fault.position
text_of (Refreshed summary) = summary_text summary
text_of (RunRefused number) = codes "refused " ++ decimal number
text_of (Checked check) = check_text check
text_of Unpublished = codes "unpublished"
text_of (Value id value) = codes "value " ++ decimal id ++ codes " " ++ signed_decimal value
text_of (NoValue id) = codes "none " ++ decimal id
text_of (End count) = codes "end " ++ decimal count
text_of (Fault fault line) =
    codes "error " ++ decimal (fault_number fault) ++ codes " line " ++ decimal line

-- an answer as a line
abbrev pub line_of_reply : Reply → List ℕ
line_of_reply reply = text_of reply ++ 10 ∷ []

-- the line of a vertex and its value
abbrev pub line_of_value : ℕ × ℤ → List ℕ
line_of_value v = codes "value " ++ decimal v.0 ++ codes " " ++ signed_decimal v.1 ++ 10 ∷ []

-- the line of an aggregate by its name, or that there is none of this name
abbrev pub line_of_aggregate : List ℕ → Option ℤ → List ℕ
line_of_aggregate name None = codes "none " ++ name ++ 10 ∷ []
line_of_aggregate name (Some value) =
    codes "aggregate " ++ name ++ codes " " ++ signed_decimal value ++ 10 ∷ []

-- all values by rising id, and how many there are
abbrev pub values_text : List (ℕ × ℤ) → List ℕ
values_text values = flat_map line_of_value values ++ line_of_reply (End (length values))
