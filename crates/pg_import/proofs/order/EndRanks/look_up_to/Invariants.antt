use Rattle.std.proofs.Common.{◌≡◌, ℕ, List}
use Rattle.pg_sort.specs.ById.{AreEntriesOf}
use Rattle.pg_import.specs.Ranks.{AreKnown}
use Rattle.pg_import.proofs.order.EndRanks.look_up_to.Given as goal

abbrev pub invariant-loop-count : goal.invariant-loop-count
invariant-loop-count l = record {
  same : l.looked_up ≡ l.fn.looked_up;
  known : (ids : List ℕ) → AreEntriesOf ids l.entries → AreKnown l.fn.looked_up ids l.fn.self → AreKnown l.fn.looked_up ids l.self;
}
