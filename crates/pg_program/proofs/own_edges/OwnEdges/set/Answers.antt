use Rattle.std.proofs.Common.{sym, ap, ◌∙◌, is_some}
use Rattle.pg_graph.specs.Handed.{EdgeList, weight_at}
use Rattle.pg_program.proofs.own_edges.OwnEdges.set.Goals as goal

pub returns-in-Err-clause-known : goal.returns-in-Err-clause-known
returns-in-Err-clause-known c =
    let known = ap is_some c.in-Err.ensures.absent.absent in
    cc

pub returns-in-Ok-clause-known : goal.returns-in-Ok-clause-known
returns-in-Ok-clause-known c =
    sym c.in-Ok.ensures.found.there ∙ ap (λ (edges : EdgeList). is_some (weight_at c.args.target edges)) c.as_slice.ensures.value
