use Rattle.std.proofs.Common.{◌<◌, length, inr, ap, arith}
use Rattle.std.proofs.lemmas.Result.{err_from_is_err_and}
use Rattle.pg_graph.specs.Edit.{batch_limit}
use Rattle.pg_graph.proofs.Batches.{too_long, refused_at, refused_within}
use Rattle.pg_graph.proofs.graph.Graph.apply.Goals as goal

pub returns-then-edits-gt-BATCH_LIMIT-clause-refused : goal.returns-then-edits-gt-BATCH_LIMIT-clause-refused
returns-then-edits-gt-BATCH_LIMIT-clause-refused c =
    let long : batch_limit < length c.args.batch.now = omega (arith, ap length c.as_slice-edits.ensures) in
    refused_at c.args.self.now c.args.batch.now _ _ c.at.result c.at.ensures.memory c.at.ensures.edit (inr (too_long c.args.self.now c.args.batch.now long))

pub returns-in_err-changes-clause-position : goal.returns-in_err-changes-clause-position
returns-in_err-changes-clause-position c =
    let p = err_from_is_err_and c.from_residual.result c.from_residual.ensures.1 in
    rw (p.1, p.2) (refused_within c.args.self.now c.args.batch.now _ c.in_err-changes.ensures.err)

pub returns-in_err-changes-2-clause-position : goal.returns-in_err-changes-2-clause-position
returns-in_err-changes-2-clause-position c =
    let p = err_from_is_err_and c.from_residual-in_err-changes-2.result c.from_residual-in_err-changes-2.ensures.1 in
    rw (p.1, p.2) (refused_within c.args.self.now c.args.batch.now _ c.in_err-changes-2.ensures.err)
