use Rattle.pg_import.proofs.RecordsLeft.{found_record}
use Rattle.pg_import.proofs.comma.next_record.Goals as goal

pub returns-clause-ok : goal.returns-clause-ok
returns-clause-ok g c =
    found_record _ g.R.Read.remaining c.args.reader.now c.read_byte_record.new.self _ c.read_byte_record.result c.map_err.result c.requires
    c.read_byte_record.ensures.reads c.read_byte_record.ensures.ready c.map_err.ensures.cases
