-- Messages with who sent them, and to whom.
use Rattle.std.specs.Prelude.{◌≡◌, ℕ, ◌==◌, List, map}
use Rattle.std.specs.List.{filter, flat_map, zip}
use Rattle.std.specs.List.Sorted.{IsNonDecreasingBy}

-- sender, target and message of each
abbrev pub Outbox : Type 0 → Type 0
Outbox M = List (ℕ × ℕ × M)

module _ {M : Type 0} where
  -- a sender, with a message and its target
  abbrev pub as_send : ℕ × (ℕ × M) → ℕ × ℕ × M
  as_send p = (p.0, p.1.0, p.1.1)

  -- messages with their targets, and the senders at the same places
  abbrev pub sends_in : List ℕ → List (ℕ × M) → Outbox M
  sends_in senders sent = map as_send (zip senders sent)

  -- what goes to one target, in the order of the sends: by whom, and what
  abbrev pub envelopes_to : ℕ → Outbox M → List (ℕ × M)
  envelopes_to target sent = map (λ s. (s.0, s.2)) (filter (λ s. s.1 == target) sent)

  -- a send as an item of its target
  abbrev pub as_item : ℕ × ℕ × M → ℕ × (ℕ × M)
  as_item s = (s.1, (s.0, s.2))

  -- what one sender sent
  abbrev pub sent_by : ℕ → Outbox M → Outbox M
  sent_by sender sent = filter (λ s. s.0 == sender) sent

  -- the sends as a superstep has them: target and message of each
  abbrev pub without_senders : Outbox M → List (ℕ × M)
  without_senders sent = map (λ s. (s.1, s.2)) sent

  abbrev pub RiseBySender : Outbox M → Type 0
  RiseBySender sent = IsNonDecreasingBy (λ s. s.0) sent

  -- all sends of these lists by rising sender: each sender's in the order in which it sent them
  pub record AreAllOf (lists : List (Outbox M)) (all : Outbox M) : Type 0 where
    pub rise : RiseBySender all
    pub same : (sender : ℕ) → sent_by sender all ≡ flat_map (sent_by sender) lists
