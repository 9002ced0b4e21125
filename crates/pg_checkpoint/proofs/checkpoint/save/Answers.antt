use Rattle.std.proofs.Common.{◌∙◌, ap, take, Err}
use Rattle.std.proofs.lemmas.Result.{err_from_is_err_and}
use Rattle.pg_checkpoint.specs.Bytes.{second_coding}
use Rattle.pg_checkpoint.specs.Loading.{key_of}
use Rattle.pg_checkpoint.specs.Records.{edges_behind}
use Rattle.pg_checkpoint.proofs.Puts.{not_put, put_as}
use Rattle.pg_checkpoint.proofs.checkpoint.save.Goals as goal

pub returns-in_err-key-clause-put : goal.returns-in_err-key-clause-put
returns-in_err-key-clause-put g c =
    let p = err_from_is_err_and c.from_residual.result c.from_residual.ensures.1 in
    not_put _ _ (g.S.Shelf.state c.args.shelf.now) c.from_residual.result (p.1 ∙ ap Err p.2)

pub returns-in_err-bytes-clause-put : goal.returns-in_err-bytes-clause-put
returns-in_err-bytes-clause-put g c =
    let p = err_from_is_err_and c.from_residual-in_err-bytes.result c.from_residual-in_err-bytes.ensures.1 in
    not_put _ _ (g.S.Shelf.state c.args.shelf.now) c.from_residual-in_err-bytes.result (p.1 ∙ ap Err p.2)

pub returns-clause-put : goal.returns-clause-put
returns-clause-put g c =
    let part_run = c.args.part.now.part_run in
    let records = take part_run.place part_run.trace.records in
    put_as (key_of part_run.partition)
    (second_coding g.V.Coded.coding g.M.Coded.coding c.args.run part_run.partition (edges_behind part_run.trace.initial records) records)
    c.put.ensures (c.as_bytes.ensures.value ∙ c.in_ok-key.ensures ∙ ap key_of c.partition.ensures)
    (c.as_slice.ensures.value ∙ c.in_ok-bytes.ensures.bytes)
