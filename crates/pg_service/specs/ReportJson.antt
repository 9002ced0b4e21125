-- A report as a JSON object.
use Rattle.std.specs.Prelude.{codes, length}
use Rattle.serde_json.specs.Data.{Data, number, unsigned, object, member, no_members, string}
use Rattle.pg_service.specs.Printed.{ending_name}
use Rattle.pg_service.specs.declared.report.Report.{Report}

-- its members, in the order of their keys
abbrev pub object_of : Report → Data
object_of report =
    object (member (codes "calls") (number (unsigned report.calls))
    (member (codes "dropped") (number (unsigned report.dropped))
    (member (codes "edition") (number (unsigned report.edition))
    (member (codes "ending") (string (ending_name report.ending))
    (member (codes "losses") (number (unsigned (length report.losses)))
    (member (codes "sent") (number (unsigned report.sent))
    (member (codes "supersteps") (number (unsigned report.supersteps)) no_members)))))))
