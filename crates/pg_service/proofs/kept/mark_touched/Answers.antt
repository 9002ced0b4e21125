use Rattle.std.proofs.Common.{◌++◌, ◌<◌, length, IfSome, ap, sym, subst, ◌∙◌, rules}
use Rattle.std.proofs.lemmas.Result.{on_ok_weaker}
use Rattle.pg_graph.specs.Edit.{batch_limit}
use Rattle.pg_graph.proofs.Batches.{Err_not_Ok, too_long}
use Rattle.pg_service.specs.Kept.{IsKept, sources}
use Rattle.pg_service.proofs.Untouched.{kept_past_batch}
use Rattle.pg_service.proofs.kept.mark_touched.Goals as goal

pub returns-then-edits-gt-BATCH_LIMIT-clause-after : goal.returns-then-edits-gt-BATCH_LIMIT-clause-after
returns-then-edits-gt-BATCH_LIMIT-clause-after g c job n graph made h is =
    let long : batch_limit < length c.args.batch.now = search rules in
    absurd (Err_not_Ok (sym (too_long graph c.args.batch.now long) ∙ h))

pub returns-in-Some-clause-after : goal.returns-in-Some-clause-after
returns-in-Some-clause-after g c =
    let edits = c.as_slice-edits.result.now in
    on_ok_weaker c.add_sources.result
    (λ items job n graph made h is.
    kept_past_batch job n graph c.in-Some.run' (record { traces = c.run.inside.traces; touched = c.add_sources.new.ids.items }) (sources edits)
    (ap (λ k. k.traces) c.run.view_is) (items ∙ ap (λ k. k.touched ++ sources edits) c.run.view_is)
    (subst (λ o. IfSome o (IsKept job n graph)) c.in-Some.is is) c.args.batch.now made (ap sources c.as_slice-edits.ensures) h)
    c.add_sources.ensures.ok
