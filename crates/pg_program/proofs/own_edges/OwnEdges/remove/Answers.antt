use Rattle.pg_program.proofs.own_edges.OwnEdges.remove.Goals as goal

pub returns-in-Err : goal.returns-in-Err
returns-in-Err c =
    let missing = c.in-Err.ensures.absent.unchanged in
    cc
