-- What goes from partition to partition: bundles, and what they tell of those of another run.
use Rattle.std.specs.Prelude.{◌≡◌, ℕ, zero, suc, ◌+◌, ◌<◌, List, [], map, Option, None, Some}
use Rattle.std.specs.List.{flat_map, range_with_len}
use Rattle.std.specs.Option.{option_map, option_to_list}
use Rattle.pg_graph.specs.Rows.{Rows}
use Rattle.pg_inbox.specs.Handed.{AreChanged, AreSameAt, LoggedBundle, MessageLists, Outbox, bundle_of}
use Rattle.pg_inbox.specs.Handed.{message_lists_in}
use Rattle.pg_inbox.specs.LoggedBundle.{Slots, slot_at}
use Rattle.pg_model.specs.Job.{Job}
use Rattle.pg_model.specs.Order.{Sending}
use Rattle.pg_model.specs.Share.{sent_to}

module _ {M : Type 0} where
  abbrev pub bundle_in : Option (LoggedBundle M) → Option (MessageLists M)
  bundle_in logged = option_map (λ l. l.bundle) logged

  -- the bundles that logs have from n partitions to one of them in superstep s
  abbrev pub bundles_at : Slots M → ℕ → ℕ → ℕ → List (MessageLists M)
  bundles_at logs n to s = flat_map (λ q. option_to_list (bundle_in (slot_at logs s q to))) (range_with_len 0 n)

  -- those of the superstep before s, if there is one
  abbrev pub bundles_before : Slots M → ℕ → ℕ → ℕ → List (MessageLists M)
  bundles_before logs n to zero = []
  bundles_before logs n to (suc s) = bundles_at logs n to s

  -- a bundle tells, if anything, at which targets it differs from that of another run, which may be missing
  abbrev pub TellsFrom : Option (MessageLists M) → LoggedBundle M → Type 0
  TellsFrom old logged = elim logged.changed [
    | None ↦ Unit {0}
    | Some ids ↦ AreChanged (message_lists_in old) logged.bundle ids
  ]

  abbrev pub TellsAt : Option (LoggedBundle M) → Option (LoggedBundle M) → Type 0
  TellsAt old None = Unit {0}
  TellsAt old (Some logged) = TellsFrom (bundle_in old) logged

  -- two bundles are the same at a target, where either may be missing
  abbrev pub AreSameIn : ℕ → Option (MessageLists M) → Option (MessageLists M) → Type 0
  AreSameIn id old new = AreSameAt (message_lists_in old) (message_lists_in new) id

  -- a bundle is the same at a target as the other run's, if what it tells of that is right
  abbrev pub IsSameAtChanged : ℕ → Option (MessageLists M) → LoggedBundle M → Type 0
  IsSameAtChanged id old logged = TellsFrom old logged → AreSameIn id old (Some logged.bundle)

  abbrev pub AreSameTo : ℕ → Option (LoggedBundle M) → Option (LoggedBundle M) → Type 0
  AreSameTo id old new = TellsAt old new → AreSameIn id (bundle_in old) (bundle_in new)

  -- messages as a bundle is made of them
  abbrev pub as_sends : List (Sending M) → Outbox M
  as_sends ts = map (λ t. (t.sender, t.target, t.message)) ts

module _ {V M : Type 0} (job : Job V M) (rows : Rows) where
  -- the bundle that partition p of n sends to partition q in superstep s
  abbrev pub bundle_sent : ℕ → ℕ → ℕ → ℕ → MessageLists M
  bundle_sent n p q s = bundle_of job.combining (as_sends (sent_to job rows n p q s))

  -- logs have what each partition sent to partition p in the superstep before r
  abbrev pub HasMessages : ℕ → ℕ → ℕ → Slots M → Type 0
  HasMessages n p r logs = (s q : ℕ) → s + 1 ≡ r → q < n → bundle_in (slot_at logs s q p) ≡ Some (bundle_sent n q p s)
