use Rattle.std.proofs.Common.{◌≡◌, ℕ, ◌-◌}
use Rattle.pg_inbox.specs.SparseVec.{value_in}
use Rattle.pg_inbox.specs.SentRow.{AreBelow, slots_in}
use Rattle.pg_inbox.proofs.sent_row.SentRow.fill.Given as goal

abbrev pub invariant-loop-self : goal.invariant-loop-self
invariant-loop-self g l = record {
  same : (q : ℕ) → value_in q (slots_in l.self-inside.count l.self-inside.usual l.self-inside.others.items)
      ≡ value_in q (slots_in l.initial.self-inside.count l.initial.self-inside.usual l.initial.self-inside.others.items);
  below : AreBelow l.self-inside.count l.self-inside.others.items;
}

abbrev pub decreases-loop-self : goal.decreases-loop-self
decreases-loop-self g l = l.to - l.self-inside.count
