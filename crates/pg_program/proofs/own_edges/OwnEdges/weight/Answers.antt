use Rattle.std.proofs.Common.{arith}
use Rattle.std.proofs.lemmas.Grind.{common_steps}
use Rattle.std.proofs.lemmas.Int.{to_z-of_z}
use Rattle.pg_program.proofs.own_edges.OwnEdges.weight.Goals as goal

pub returns-in-Ok : goal.returns-in-Ok
returns-in-Ok c =
    let found = c.in-Ok.ensures.found.held c.index-edges-place.result in
    grind (arith, common_steps, to_z-of_z)

pub returns-in-Err : goal.returns-in-Err
returns-in-Err c =
    let missing = c.in-Err.ensures.absent.absent in
    cc
