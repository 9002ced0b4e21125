use Rattle.std.proofs.Common.{arith, rules}
use Rattle.std.proofs.lemmas.Grind.{common_steps}
use Rattle.std.proofs.lemmas.Int.{to_z-of_z}
use Rattle.std.proofs.lemmas.List.Sorted.{answers_always}
use Rattle.pg_map.proofs.Search.{lookup_found, lookup_missing, searchable}
use Rattle.pg_graph_rows.proofs.edges.Edges.weight.Goals as goal

pub returns-in-Ok : goal.returns-in-Ok
returns-in-Ok c =
    let edges = c.as_slice-edges.result.now in
    let here = c.in-Ok.ensures.position (λ e. e.0) (answers_always _ _ _ (λ f a r g h. search rules)) in
    let found = lookup_found edges c.args.target c.in-Ok.place c.index-edges-place.result c.as_slice-edges.ensures.rising c.in-Ok.ensures.bound here in
    grind (arith, common_steps, to_z-of_z)

pub returns-in-Err : goal.returns-in-Err
returns-in-Err c =
    let edges = c.as_slice-edges.result.now in
    let rising = c.as_slice-edges.ensures.rising in
    let parts = c.in-Err.ensures.position (λ e. e.0) (answers_always _ _ _ (λ f a r g h. search rules)) (searchable edges c.args.target rising) in
    let missing = lookup_missing edges c.args.target c.in-Err.field-0 rising parts in
    cc
