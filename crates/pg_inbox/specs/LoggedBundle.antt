-- What a log has of each superstep and each pair of partitions.
use Rattle.std.specs.Prelude.{ℕ, ◌==◌, ◌&&◌, Bool, List, Option}
use Rattle.pg_inbox.specs.SparseVec.{inside, value_in}
use Rattle.pg_inbox_bundles.specs.declared.logged_bundle.LoggedBundle.{LoggedBundle}

-- by superstep, and by the partition that receives
abbrev pub Sent : Type 0 → Type 0
Sent M = List (Option (List (Option (LoggedBundle M))))

-- by the partition that sent
abbrev pub Slots : Type 0 → Type 0
Slots M = List (Option (Sent M))

module _ {M : Type 0} where
  -- what one partition sent to q in superstep s
  abbrev pub slot_of : Sent M → ℕ → ℕ → Option (LoggedBundle M)
  slot_of supersteps s q = inside q (value_in s supersteps)

  -- what p sent to q in superstep s
  abbrev pub slot_at : Slots M → ℕ → ℕ → ℕ → Option (LoggedBundle M)
  slot_at senders s p q = inside q (inside s (value_in p senders))

-- the same superstep, sender and receiver
abbrev pub is_pair : ℕ → ℕ → ℕ → ℕ → ℕ → ℕ → Bool
is_pair superstep from to s p q = (from == p) && ((superstep == s) && (to == q))
