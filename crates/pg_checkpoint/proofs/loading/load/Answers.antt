use Rattle.std.proofs.Common.{◌∙◌, Err, ap}
use Rattle.std.proofs.lemmas.Result.{err_from_is_err_and}
use Rattle.pg_checkpoint.proofs.Puts.{not_got}
use Rattle.pg_checkpoint.proofs.loading.load.Goals as goal

pub returns-in_err-key-clause-got : goal.returns-in_err-key-clause-got
returns-in_err-key-clause-got g c =
    let p = err_from_is_err_and c.from_residual.result c.from_residual.ensures.1 in
    not_got (g.S.Shelf.state c.args.shelf.now) c.from_residual.result (p.1 ∙ ap Err p.2)
