use Rattle.std.proofs.Common.{◌≡◌, ◌++◌, map, take}
use Rattle.pg_inbox.proofs.lists.add_envelopes.Given as goal

abbrev pub invariant-loop-envelope : goal.invariant-loop-envelope
invariant-loop-envelope g l = l.envelopes.items ≡ l.initial.envelopes.items ++ map (λ l. l.1) (take l.envelope-index l.more)
