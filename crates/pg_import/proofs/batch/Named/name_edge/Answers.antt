use Rattle.std.proofs.Common.{not, is_some, refl, ap, sym, ◌∙◌}
use Rattle.std.specs.Option.{option_and_then}
use Rattle.pg_graph.specs.Handed.{weight_at}
use Rattle.pg_import.specs.Batch.{has_edge}
use Rattle.pg_import.proofs.NamedEdgeFacts.{there_in-apart}
use Rattle.pg_import.proofs.NamedFacts.{Shows-edge}
use Rattle.pg_import.proofs.batch.Named.name_edge.Goals as goal

pub returns-in-Some : goal.returns-in-Some
returns-in-Some c = λ rows shows source.
    let line = c.args.line.now in (
      c.in-Some.ensures.added (has_edge line.source line.target c.args.graph.now) ∙ ap not (sym (shows.edges line.source line.target)),
      Shows-edge c.args.graph.now c.args.self.now c.name.new.self rows line shows source c.in-Some.ensures.named,
    )

pub returns-in_ok-push_named-in-None : goal.returns-in_ok-push_named-in-None
returns-in_ok-push_named-in-None c = λ rows shows source.
    let line = c.args.line.now in
    let graph = c.args.graph.now in
    let apart = c.in-None.ensures.apart refl in
    let here = shows.edges line.source line.target
    ∙ there_in-apart line.source line.target (has_edge line.source line.target graph) c.args.self.now.edges apart in
    let known = c.has_edge_to.ensures ∙ ap (λ row. is_some (option_and_then (λ r. weight_at line.target r.edges) row)) c.row.ensures in (
      ap not (known ∙ sym here),
      Shows-edge graph c.args.self.now c.push_named.new.self rows line shows source
          (rw (c.in-None.ensures.same refl) at c.in_ok-push_named-in-None.ensures),
    )
