use Rattle.std.proofs.Common.{◌≡◌, ◌++◌, map}
use Rattle.pg_scratch.proofs.runner.values_of.Given as goal

abbrev pub invariant-loop-with_inbox : goal.invariant-loop-with_inbox
invariant-loop-with_inbox g l =
    l.values.items ++ map (λ x. (x.state.id, x.state.value)) l.with_inbox-iterator.rest.items
    ≡ map (λ x. (x.state.id, x.state.value)) l.fn.with_inboxes.items
