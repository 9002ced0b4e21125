use Rattle.std.proofs.Common.{◌++◌, ◌∷◌, ◌<◌, ◌≤◌, [], length, get_or, Some, ap, ◌∙◌, subst}
use Rattle.std.proofs.lemmas.List.{take_all}
use Rattle.std.specs.Arc.{arc_value}
use Rattle.pg_map.proofs.Filling.{mapped_more}
use Rattle.pg_trace_records.specs.RecordChanges.{given_at}
use Rattle.pg_trace_records.proofs.Changed.{given_there, each_some}
use Rattle.pg_trace_records.proofs.records.each_of.Goals as goal

pub loop-place-init : goal.loop-place-init
loop-place-init g c = c.in_ok-each.ensures.items

pub loop-place-preserved : goal.loop-place-preserved
loop-place-preserved g c =
    let all = arc_value c.in_ok-all.all in
    let place = c.loop-place.place in
    let x = c.at-id.result in
    let within = subst (λ n. place < n) (c.len-place-end.ensures ∙ ap length c.deref-2.ensures) c.loop-place-test.true in
    let here = c.at-id.ensures x ∙ ap (λ l. get_or l place x) c.deref-in-loop-place.ensures in
    mapped_more (λ e. (e.0, Some e.1)) all place within here c.loop-place.invariant
    (c.in_ok-push.ensures.items
    ∙ ap (λ o. c.loop-place.each.items ++ (x.0, Some o) ∷ []) (ap (given_at place) c.in_ok-try_clone.ensures ∙ given_there place all within here))

pub returns : goal.returns
returns g c =
    c.loop-place.invariant
    ∙ ap each_some (take_all c.loop-place.place (arc_value c.in_ok-all.all)
    (subst (λ n. n ≤ c.loop-place.place) (c.len-place-end.ensures ∙ ap length c.deref-2.ensures) c.loop-place-test.false) ∙ c.in_ok-all.ensures.ok ∙ c.shrink_to_fit.ensures)
