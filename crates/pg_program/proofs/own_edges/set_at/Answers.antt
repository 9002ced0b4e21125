use Rattle.std.proofs.Common.{arith}
use Rattle.std.proofs.lemmas.Grind.{common_steps}
use Rattle.std.proofs.lemmas.Int.{to_z-of_z}
use Rattle.pg_graph.proofs.Handed.{rises_written}
use Rattle.pg_program.proofs.own_edges.set_at.Goals as goal

pub returns-clause-value : goal.returns-clause-value
returns-clause-value c =
    let written = c.requires.place.written c.args.weight in
    grind (arith, common_steps, to_z-of_z)

pub returns-clause-rising : goal.returns-clause-rising
returns-clause-rising c =
    let rises = rises_written c.args.room.now.items c.args.target c.args.place c.requires.rising c.args.weight c.requires.place in
    grind (arith, common_steps, to_z-of_z)
