use Rattle.std.proofs.Common.{◌≡◌, map, take}
use Rattle.std.specs.List.{flat_map}
use Rattle.pg_inbox.proofs.receiving.envelopes_in.Given as goal

abbrev pub invariant-loop-message_list : goal.invariant-loop-message_list
invariant-loop-message_list g l = l.envelopes.items ≡ flat_map (λ c. c.envelopes) (map (λ p. p.1) (take l.message_list-index l.message_lists))
