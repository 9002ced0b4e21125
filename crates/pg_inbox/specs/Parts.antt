-- Inboxes whose messages lie in one list.
use Rattle.std.specs.Prelude.{ℕ, ◌+◌, ◌≤◌, List, length, take, drop, map}
use Rattle.std.specs.List.{AllByRecursion}
use Rattle.pg_inbox.specs.declared.delivered.Delivered.{Delivered}

module _ {M : Type 0} where
  -- each vertex with its part of the messages
  abbrev pub inboxes_in : List M → List Delivered → List (ℕ × List M)
  inboxes_in messages parts = map (λ p. (p.id, take p.count (drop p.first messages))) parts

  -- each part lies within the messages
  abbrev pub AreWithin : List M → List Delivered → Type 0
  AreWithin messages parts = AllByRecursion (λ p. p.first + p.count ≤ length messages) parts
