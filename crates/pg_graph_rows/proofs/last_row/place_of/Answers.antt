use Rattle.std.proofs.Common.{rules, ◌≡◌, ◌++◌, Err, Ok, ap, drop, subst, sym, ◌∙◌}
use Rattle.std.proofs.Math.Seq.{drop-append_seam}
use Rattle.std.proofs.lemmas.List.Sorted.{answers_always}
use Rattle.pg_graph_rows.specs.EdgeList.{IsRising}
use Rattle.pg_graph_rows.specs.Places.{IsGapFor, IsPlaceOf}
use Rattle.pg_graph_rows.proofs.AtPlace.{searched}
use Rattle.pg_graph_rows.proofs.LastRow.{gap_behind, place_behind}
use Rattle.pg_graph_rows.proofs.last_row.place_of.Goals as goal

pub returns-in-Ok-clause-found : goal.returns-in-Ok-clause-found
returns-in-Ok-clause-found c = λ front last whole long rising.
    let first = c.args.first in
    let target = c.args.target in
    let slice = c.split_at.result.1.now in
    let same : slice ≡ last = c.split_at.ensures.back ∙ ap (drop first) whole ∙ ap (λ n. drop n (front ++ last)) (sym long) ∙ drop-append_seam front last in
    let facts = c.in-Ok.ensures in
    let by_key = facts.position (λ e. e.0) (answers_always _ _ _ (λ f a r g h. search rules)) in
    let stated = searched slice target (Ok c.in-Ok.place) (subst IsRising (sym same) rising) facts.bound by_key in
    place_behind target front last first c.in-Ok.place long (subst (λ l. IsPlaceOf target l c.in-Ok.place) same stated.found)

pub returns-in-Err-clause-absent : goal.returns-in-Err-clause-absent
returns-in-Err-clause-absent c = λ front last whole long rising.
    let first = c.args.first in
    let target = c.args.target in
    let slice = c.split_at.result.1.now in
    let same : slice ≡ last = c.split_at.ensures.back ∙ ap (drop first) whole ∙ ap (λ n. drop n (front ++ last)) (sym long) ∙ drop-append_seam front last in
    let facts = c.in-Err.ensures in
    let by_key = facts.position (λ e. e.0) (answers_always _ _ _ (λ f a r g h. search rules)) in
    let stated = searched slice target (Err c.in-Err.place) (subst IsRising (sym same) rising) facts.bound by_key in
    gap_behind target front last first c.in-Err.place long (subst (λ l. IsGapFor target l c.in-Err.place) same stated.absent)
