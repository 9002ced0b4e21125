-- The text of a report.
use Rattle.std.proofs.Common.{◌≡◌, false, refl, rules}
use Rattle.pg_model.specs.declared.run.Ending.{Ending}
use Rattle.pg_model.specs.declared.run.Ending.TheVariants.{MasterHalted, Finished, LimitReached}
use Rattle.std.specs.Fmt.{digits}
use Rattle.serde_json.specs.Written.{compact_text, has_float}
use Rattle.serde_json.proofs.OnLiterals.{serde_json_on_literals}
use Rattle.pg_service.specs.Printed.{json_text}
use Rattle.pg_service.specs.ReportJson.{object_of}
use Rattle.pg_service.specs.declared.report.Report.{Report}

-- whatever the ending
by_ending : (report : Report) (ending : Ending) → compact_text (object_of (record report { ending = ending })) ≡ json_text (record report { ending = ending })
unfolding serde_json_on_literals json_text digits
by_ending report MasterHalted = search rules
by_ending report Finished = search rules
by_ending report LimitReached = search rules

-- a report as an object is printed so
pub text_of_object : (report : Report) → compact_text (object_of report) ≡ json_text report
text_of_object report = by_ending report report.ending

pub no_float : (report : Report) → has_float (object_of report) ≡ false
unfolding serde_json_on_literals
no_float report = refl
