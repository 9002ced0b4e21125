use Rattle.std.proofs.Common.{is_some, map, ◌∷◌, [], ap, ◌∙◌}
use Rattle.std.proofs.lemmas.List.{map-append}
use Rattle.pg_graph.specs.Handed.{weight_at}
use Rattle.pg_graph.specs.Rows.{row_at}
use Rattle.pg_import.specs.Sources.{LeadAsFrom, edges_of}
use Rattle.pg_import.proofs.SourceFacts.{AreNoted-push, targets_of_row}
use Rattle.pg_import.proofs.looked_up.sources.Sources.note.Goals as goal

pub invariant_of-self-in_default : goal.invariant_of-self-in_default
invariant_of-self-in_default c =
    let graph = c.self.inside.last_row in
    let id = c.args.id in
    let edges = c.edges_of-edges.result in
    let noted = c.self.inside.edges.items in
    let lead : LeadAsFrom graph id edges.now = record {
      rising = c.edges_of-edges.ensures.rising;
      targets = λ target. ap (λ e. is_some (weight_at target e)) (c.edges_of-edges.ensures.value ∙ ap edges_of c.row_at.ensures.row)
          ∙ targets_of_row (row_at id graph) target;
    } in
    rw (c.row_at.ensures.same, c.in_ok-push.ensures.items, c.in_default.ensures.items, map-append (λ e. e.now) noted (edges ∷ []))
    (AreNoted-push graph c.self.inside.ids.items (map (λ e. e.now) noted) id edges.now c.self.invariant lead)
