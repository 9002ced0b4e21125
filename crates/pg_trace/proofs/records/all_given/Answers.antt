use Rattle.std.proofs.Common.{◌++◌, Some, ap, map, sym, ◌∙◌}
use Rattle.std.proofs.lemmas.List.{nil_from_length}
use Rattle.pg_map.proofs.Moved.{moved_all, moved_one}
use Rattle.pg_trace.proofs.records.all_given.Goals as goal

pub loop-id-preserved : goal.loop-id-preserved
loop-id-preserved g c =
    moved_one c.loop-id.changes (map (λ e. (e.0, Some e.1)) c.next.new.self.rest.items) (ap (map (λ e. (e.0, Some e.1))) c.in-Some.ensures.steps.0)
    c.loop-id.invariant c.in_ok-add_record.ensures

pub returns : goal.returns
returns g c =
    let remaining = c.loop-id.id-iterator.rest in
    moved_all c.loop-id.changes (ap (map (λ e. (e.0, Some e.1))) (nil_from_length remaining.items (sym remaining.ok.0 ∙ c.in-None.ensures.steps.0))) c.loop-id.invariant

pub loop-id-init : goal.loop-id-init
loop-id-init g c =
    let start = c.into_iter-id-iterator in
    ap (λ l. l ++ map (λ e. (e.0, Some e.1)) start.result.rest.items) c.in_ok-changes.ensures ∙ ap (map (λ e. (e.0, Some e.1))) start.ensures.into_iter_gives.0
