use Rattle.std.proofs.Common.{sym, ap, ◌∙◌, subst}
use Rattle.std.proofs.lemmas.Result.{IfOk-weaker}
use Rattle.pg_model.specs.Superstep.{has_id}
use Rattle.pg_part.specs.MemberChanges.{member_changes_among}
use Rattle.pg_part.proofs.Moving.{member_changes_are}
use Rattle.pg_stats.specs.MessageCounts.{AreMemberChanges}
use Rattle.pg_part.proofs.graphs.member_changes.Goals as goal

pub returns : goal.returns
returns c =
    let ids = c.rising-ids.result.items in
    IfOk-weaker c.member_changes_among.result _ _ (λ member_changes is touched.
    subst (λ l. AreMemberChanges l c.args.before.now c.args.after.now)
    (sym (is ∙ ap (λ l. member_changes_among c.args.before.now c.args.after.now l) c.as_slice.ensures.value))
    (member_changes_are c.args.before.now c.args.after.now c.args.touched.now ids c.rising-ids.ensures.rise
    (λ id. c.rising-ids.ensures.same id ∙ ap (λ l. has_id l id) c.in_ok-from_slice.ensures.items) touched)) c.member_changes_among.ensures
