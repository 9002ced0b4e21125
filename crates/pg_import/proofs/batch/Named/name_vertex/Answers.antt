use Rattle.std.proofs.Common.{is_some, not, ap, sym}
use Rattle.pg_import.proofs.NamedFacts.{Shows-kept}
use Rattle.pg_import.proofs.batch.Named.name_vertex.Goals as goal

pub returns-in-None : goal.returns-in-None
returns-in-None c = λ rows shows.
    let there = c.requires (ap is_some c.in-None.is) in
    (ap not (sym (shows.kept c.args.id there)), Shows-kept c.args.graph.now c.args.self.now rows c.args.id shows there)
