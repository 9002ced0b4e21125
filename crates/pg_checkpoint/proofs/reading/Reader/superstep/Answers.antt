use Rattle.std.proofs.lemmas.Result.{err_from_is_err_and}
use Rattle.pg_checkpoint.specs.Reading.{AreParts, parts_coding}
use Rattle.pg_checkpoint.proofs.Turns.{list_read, no_list}
use Rattle.pg_checkpoint.proofs.reading.Reader.superstep.Goals as goal

pub returns-in_err-count : goal.returns-in_err-count
returns-in_err-count g c =
    let p = err_from_is_err_and c.from_residual.result c.from_residual.ensures.1 in
    rw (p.1, p.2) (no_list (AreParts g.V.Plain.is_value g.M.Plain.is_value) (parts_coding g.V.Coded.coding g.M.Coded.coding) c.args.self.now
    c.in_err-count.field-0.0 c.value.new.self c.in_err-count.ensures)

pub returns : goal.returns
returns g c =
    list_read (AreParts g.V.Plain.is_value g.M.Plain.is_value) (parts_coding g.V.Coded.coding g.M.Coded.coding) c.args.self.now c.in_ok-count.count
    c.value.new.self c.records.result c.records.new.self c.in_ok-count.ensures c.records.ensures
