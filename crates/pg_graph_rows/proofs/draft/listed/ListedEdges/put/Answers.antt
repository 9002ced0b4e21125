use Rattle.std.proofs.Common.{◌+◌, length, is_some, w64, sym, ap, ap₂, ◌∙◌, add-zero}
use Rattle.std.proofs.lemmas.Int.{to_z-of_z}
use Rattle.std.proofs.lemmas.List.{length-set}
use Rattle.std.proofs.lemmas.List.Edits.{length-insert}
use Rattle.pg_graph_rows.specs.EdgeList.{weight_at, with_edge}
use Rattle.pg_graph_rows.proofs.AtPlace.{rises_written, rises_inserted}
use Rattle.pg_graph_rows.proofs.draft.listed.ListedEdges.put.Goals as goal

pub invariant_of-self-in-Ok : goal.invariant_of-self-in-Ok
invariant_of-self-in-Ok c = rises_written _ c.args.target c.in-Ok.place c.self.invariant _ c.in-Ok.ensures.found

pub invariant_of-self-in-Err : goal.invariant_of-self-in-Err
invariant_of-self-in-Err c =
    rises_inserted _ c.args.target c.in-Err.place c.self.invariant _ _ c.in-Err.ensures.absent c.in_ok-insert-in-Err.ensures.items

pub returns-in-Ok : goal.returns-in-Ok
returns-in-Ok c =
    let here = c.in-Ok.ensures.found in
    record {
      value = here.written _ ∙ ap₂ (with_edge c.args.target) (to_z-of_z w64 c.args.weight c.ranges.weight) c.self.view_is;
      was_there = sym here.there ∙ ap (λ l. is_some (weight_at c.args.target l)) c.self.view_is;
      degree = ap (λ n. n + 1) (length-set _ c.in-Ok.place _ ∙ ap length c.self.view_is);
    }

pub returns-in_ok-insert-in-Err : goal.returns-in_ok-insert-in-Err
returns-in_ok-insert-in-Err c =
    let here = c.in-Err.ensures.absent in
    let made = c.in_ok-insert-in-Err.ensures.items in
    record {
      value = made ∙ here.inserted _ ∙ ap₂ (with_edge c.args.target) (to_z-of_z w64 c.args.weight c.ranges.weight) c.self.view_is;
      was_there = sym (ap is_some here.absent) ∙ ap (λ l. is_some (weight_at c.args.target l)) c.self.view_is;
      degree = add-zero _ ∙ ap length made ∙ length-insert _ c.in-Err.place _ here.in_range ∙ ap (λ l. length l + 1) c.self.view_is;
    }
