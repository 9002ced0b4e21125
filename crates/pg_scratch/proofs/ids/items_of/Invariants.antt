use Rattle.std.proofs.Common.{◌≡◌, take}
use Rattle.pg_model.specs.Superstep.{ids}
use Rattle.pg_scratch.proofs.ids.items_of.Given as goal

abbrev pub invariant-loop-with_inbox : goal.invariant-loop-with_inbox
invariant-loop-with_inbox g l = l.ids.items ≡ ids (take l.with_inbox-index l.with_inboxes)
