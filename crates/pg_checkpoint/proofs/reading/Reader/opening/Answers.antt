use Rattle.std.proofs.lemmas.Result.{err_from_is_err_and}
use Rattle.pg_checkpoint.proofs.Openings.{is_opened, no_len, no_partition, no_run, no_supersteps}
use Rattle.pg_checkpoint.proofs.reading.Reader.opening.Goals as goal

pub returns-in_err-len : goal.returns-in_err-len
returns-in_err-len c =
    let p = err_from_is_err_and c.from_residual-in_err-len.result c.from_residual-in_err-len.ensures.1 in
    rw (p.1, p.2) (no_len c.args.self.now c.in_ok-magic.magic c.half.new.self c.in_ok-magic.ensures c.in_err-len.field-0.0 c.value.new.self c.in_err-len.ensures)

pub returns-in_err-run : goal.returns-in_err-run
returns-in_err-run c =
    let p = err_from_is_err_and c.from_residual-in_err-run.result c.from_residual-in_err-run.ensures.1 in
    rw (p.1, p.2) (no_run c.args.self.now c.in_ok-magic.magic c.half.new.self c.in_ok-magic.ensures c.in_ok-len.len c.value.new.self c.in_ok-len.ensures
    c.in_err-run.field-0.0 c.value-2.new.self c.in_err-run.ensures)

pub returns-in_err-partition : goal.returns-in_err-partition
returns-in_err-partition c =
    let p = err_from_is_err_and c.from_residual-in_err-partition.result c.from_residual-in_err-partition.ensures.1 in
    rw (p.1, p.2) (no_partition c.args.self.now c.in_ok-magic.magic c.half.new.self c.in_ok-magic.ensures c.in_ok-len.len c.value.new.self c.in_ok-len.ensures
    c.in_ok-run.run' c.value-2.new.self c.in_ok-run.ensures c.in_err-partition.field-0.0 c.half-2.new.self c.in_err-partition.ensures)

pub returns-in_err-supersteps : goal.returns-in_err-supersteps
returns-in_err-supersteps c =
    let p = err_from_is_err_and c.from_residual-in_err-supersteps.result c.from_residual-in_err-supersteps.ensures.1 in
    rw (p.1, p.2) (no_supersteps c.args.self.now c.in_ok-magic.magic c.half.new.self c.in_ok-magic.ensures c.in_ok-len.len c.value.new.self c.in_ok-len.ensures
    c.in_ok-run.run' c.value-2.new.self c.in_ok-run.ensures c.in_ok-partition.partition c.half-2.new.self c.in_ok-partition.ensures
    c.in_err-supersteps.field-0.0 c.half-3.new.self c.in_err-supersteps.ensures)

pub returns : goal.returns
returns c =
    is_opened c.args.self.now c.in_ok-magic.magic c.half.new.self c.in_ok-magic.ensures c.in_ok-len.len c.value.new.self c.in_ok-len.ensures
    c.in_ok-run.run' c.value-2.new.self c.in_ok-run.ensures c.in_ok-partition.partition c.half-2.new.self c.in_ok-partition.ensures
    c.in_ok-supersteps.supersteps c.half-3.new.self c.in_ok-supersteps.ensures
