use Rattle.std.proofs.Common.{◌≡◌, take}
use Rattle.pg_model.specs.Superstep.{capped, edges_of}
use Rattle.pg_scratch.proofs.totals.counted.Given as goal

abbrev pub invariant-loop-with_inbox : goal.invariant-loop-with_inbox
invariant-loop-with_inbox g l = l.total ≡ capped (edges_of (take l.with_inbox-index l.with_inboxes))
