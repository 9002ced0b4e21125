use Rattle.std.proofs.Common.{◌≡◌, ℕ, List}
use Rattle.pg_sort.specs.ById.{AreEntriesOf}
use Rattle.pg_import.specs.Ranks.{AreKnown}
use Rattle.pg_import.proofs.order.Ranks.look_up_ends.Given as goal

abbrev pub invariant-loop-place : goal.invariant-loop-place
invariant-loop-place l = record {
  same : l.looked_up ≡ l.fn.looked_up;
  unread : (ids : List ℕ) → AreEntriesOf ids l.fn.targets.items → AreEntriesOf ids l.unread;
  sources : (ids : List ℕ) → AreEntriesOf ids l.sources → AreKnown l.fn.looked_up ids l.fn.self.sources → AreKnown l.fn.looked_up ids l.self.sources;
  targets : (ids : List ℕ) → AreEntriesOf ids l.fn.targets.items → AreKnown l.fn.looked_up ids l.fn.self.targets → AreKnown l.fn.looked_up ids l.self.targets;
}
