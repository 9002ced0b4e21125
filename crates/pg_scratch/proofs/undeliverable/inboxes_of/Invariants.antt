use Rattle.std.proofs.Common.{◌≡◌, ◌++◌, map}
use Rattle.pg_scratch.proofs.undeliverable.inboxes_of.Given as goal

abbrev pub invariant-loop-blank : goal.invariant-loop-blank
invariant-loop-blank g l =
    l.inboxes ++ map (λ x. (x.state.id, x.inbox)) l.blank-iterator.rest.items ≡ map (λ x. (x.state.id, x.inbox)) l.fn.blanks.items
