use Rattle.std.proofs.Common.{not, is_some, refl, ap, sym, ◌∙◌}
use Rattle.pg_import.specs.Batch.{has_vertex}
use Rattle.pg_import.proofs.NamedEdgeFacts.{there_in-apart}
use Rattle.pg_import.proofs.NamedFacts.{Shows-vertex}
use Rattle.pg_import.proofs.batch.Named.name_missing.Goals as goal

pub returns-in-Some : goal.returns-in-Some
returns-in-Some c = λ rows shows. (
  c.in-Some.ensures.added (has_vertex c.args.id c.args.graph.now) ∙ ap not (sym (shows.vertices c.args.id)),
  Shows-vertex c.args.graph.now c.args.self.now c.name.new.self rows c.args.id shows c.in-Some.ensures.named,
)

pub returns-in_ok-push_named-in-None : goal.returns-in_ok-push_named-in-None
returns-in_ok-push_named-in-None c = λ rows shows.
    let id = c.args.id in
    let graph = c.args.graph.now in
    let here = shows.vertices id ∙ there_in-apart id id (has_vertex id graph) c.args.self.now.vertices (c.in-None.ensures.apart refl) in
    let known = c.is_there.ensures ∙ ap is_some c.row.ensures in (
      ap not (known ∙ sym here),
      Shows-vertex graph c.args.self.now c.push_named.new.self rows id shows
          (rw (c.in-None.ensures.same refl) at c.in_ok-push_named-in-None.ensures),
    )
