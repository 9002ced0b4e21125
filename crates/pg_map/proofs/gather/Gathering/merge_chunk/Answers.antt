use Rattle.std.proofs.Common.{◌++◌, ap, ◌∙◌}
use Rattle.std.proofs.lemmas.Result.{IfOk-equal}
use Rattle.pg_map.specs.Entries.{with_changes}
use Rattle.pg_map.proofs.gather.Gathering.merge_chunk.Goals as goal

pub returns : goal.returns
returns g c =
    let changes = c.args.changes.now in
    let entries = c.as_slice-entries.ensures.value ∙ ap (λ v. v.items) c.deref.ensures in
    IfOk-equal c.end_chunk.result _ _ _ c.end_chunk.ensures
    (c.in_ok-merge.ensures
    ∙ ap (λ l. l ++ with_changes changes c.as_slice-entries.result.now) c.in_ok-make_room.ensures
    ∙ ap (λ l. c.args.self.now ++ with_changes changes l) entries)
