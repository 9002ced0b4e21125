use Rattle.std.proofs.Common.{sym, ◌∙◌, arith}
use Rattle.std.proofs.lemmas.Grind.{common_steps}
use Rattle.std.proofs.lemmas.Int.{to_z-of_z}
use Rattle.pg_graph.proofs.Handed.{rises_inserted}
use Rattle.pg_program.proofs.own_edges.insert_at.Goals as goal

pub returns-clause-ok : goal.returns-clause-ok
returns-clause-ok c =
    let inserted = c.requires.place.inserted c.args.weight in
    grind (arith, common_steps, to_z-of_z)

pub returns-clause-rising : goal.returns-clause-rising
returns-clause-rising c =
    let inserted = returns-clause-ok c ∙ sym (c.requires.place.inserted c.args.weight) in
    rises_inserted c.args.room.now.items c.args.target c.args.place c.requires.rising c.args.weight c.insert.new.self.items c.requires.place inserted
