use Rattle.std.proofs.Common.{◌≡◌, take}
use Rattle.pg_part.specs.MemberChanges.{member_changes_among}
use Rattle.pg_part.proofs.graphs.member_changes_among.Given as goal

abbrev pub invariant-loop-id : goal.invariant-loop-id
invariant-loop-id l = l.member_changes.items ≡ member_changes_among l.before l.after (take l.id-index l.ids)
