use Rattle.std.proofs.Common.{◌≡◌, ◌++◌, take}
use Rattle.pg_inbox.proofs.receiving.copy_envelopes.Given as goal

abbrev pub invariant-loop-place : goal.invariant-loop-place
invariant-loop-place g l = l.envelopes.items ≡ l.initial.envelopes.items ++ take l.place l.more.envelopes
