use Rattle.pg_graph.proofs.Handed.{rises_removed}
use Rattle.pg_program.proofs.own_edges.remove_at.Goals as goal

pub returns-clause-value : goal.returns-clause-value
returns-clause-value c =
    let removed = c.requires.place.removed in
    cc

pub returns-clause-rising : goal.returns-clause-rising
returns-clause-rising c =
    rises_removed c.args.room.now.items c.args.target c.args.place c.requires.rising _ c.requires.place c.remove.ensures.items
