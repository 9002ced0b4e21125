use Rattle.std.proofs.Common.{◌≡◌, ℕ, ◌+◌, ◌-◌, length}
use Rattle.pg_inbox.specs.SparseVec.{value_in}
use Rattle.pg_inbox.proofs.places.SparseVec.grow.Given as goal

abbrev pub invariant-loop-self : goal.invariant-loop-self
invariant-loop-self g l = (other : ℕ) → value_in other l.self-inside.values.items ≡ value_in other l.initial.self-inside.values.items

abbrev pub decreases-loop-self : goal.decreases-loop-self
decreases-loop-self g l = l.place + 1 - length l.self-inside.values.items
