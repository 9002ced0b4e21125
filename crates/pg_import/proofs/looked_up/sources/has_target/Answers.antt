use Rattle.std.proofs.Common.{is_some, pos, ap, sym, rules}
use Rattle.std.proofs.lemmas.List.Sorted.{answers_always}
use Rattle.pg_map.proofs.Search.{lookup_found, lookup_missing, searchable}
use Rattle.pg_import.proofs.looked_up.sources.has_target.Goals as goal

pub returns-in-Ok : goal.returns-in-Ok
returns-in-Ok c =
    let edges = c.args.edges.now in
    let here = c.in-Ok.ensures.position (λ e. e.0) (answers_always _ _ _ (λ f a r g h. search rules)) in
    sym (ap is_some (lookup_found edges c.args.target c.in-Ok.field-0 (0, pos 0) c.requires c.in-Ok.ensures.bound here))

pub returns-in-Err : goal.returns-in-Err
returns-in-Err c =
    let edges = c.args.edges.now in
    let parts = c.in-Err.ensures.position (λ e. e.0) (answers_always _ _ _ (λ f a r g h. search rules)) (searchable edges c.args.target c.requires) in
    sym (ap is_some (lookup_missing edges c.args.target c.in-Err.field-0 c.requires parts))
