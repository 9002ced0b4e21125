use Rattle.std.proofs.Common.{sym}
use Rattle.pg_inbox_bundles.proofs.Merging.{absent_from, none_there, other_there}
use Rattle.pg_inbox_bundles.proofs.changing.message_list_at.Goals as goal
use Rattle.pg_inbox_bundles.proofs.changing.message_list_at.Goals.{in_default-via-in-Some+else-eq, in_default-via-in_default}

pub returns-in_default : goal.returns-in_default
returns-in_default g c =
    let target = c.args.target in
    let place = c.args.place in
    let message_lists = c.args.message_lists.now in
    sym (absent_from target place message_lists c.requires.rise c.requires.from (elim c.in_default.branch [
      | in_default-via-in-Some+else-eq w ↦ other_there target place message_lists w.in-Some.ensures.lookup.1 w.if-eq.ensures
      | in_default-via-in_default w ↦ none_there target place message_lists w.in_default.ensures.lookup.0
    ]))
