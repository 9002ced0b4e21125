-- The texts of checks, and of reports as JSON.
use Rattle.std.specs.Prelude.{ℕ, List, ◌++◌, length, decimal, codes}
use Rattle.pg_model.specs.declared.run.Ending.{Ending}
use Rattle.pg_model.specs.declared.run.Ending.TheVariants.{MasterHalted, Finished, LimitReached}
use Rattle.pg_service.specs.declared.answers.Check.{Check}
use Rattle.pg_service.specs.declared.answers.Check.TheVariants.{Stale, Same, Different}
use Rattle.pg_service.specs.declared.report.Report.{Report}

-- the word for an ending
abbrev pub ending_name : Ending → List ℕ
ending_name MasterHalted = codes "halted"
ending_name Finished = codes "finished"
ending_name LimitReached = codes "limit"

-- the report of a refresh, as JSON
unfoldable pub json_text : Report → List ℕ
json_text report =
    codes "{\"calls\":" ++ (decimal report.calls
    ++ (codes ",\"dropped\":" ++ (decimal report.dropped
    ++ (codes ",\"edition\":" ++ (decimal report.edition
    ++ (codes ",\"ending\":\"" ++ (ending_name report.ending
    ++ (codes "\",\"losses\":" ++ (decimal (length report.losses)
    ++ (codes ",\"sent\":" ++ (decimal report.sent
    ++ (codes ",\"supersteps\":" ++ (decimal report.supersteps
    ++ codes "}")))))))))))))

-- what a check has found
abbrev pub check_text : Check → List ℕ
check_text Stale = codes "check stale"
check_text (Same calls) = codes "check same calls " ++ decimal calls
check_text (Different calls) = codes "check different calls " ++ decimal calls
