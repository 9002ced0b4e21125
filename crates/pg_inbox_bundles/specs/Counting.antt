-- How many messages a bundle has.
use Rattle.std.specs.Prelude.{ℕ, Bool, cond, length}
use Rattle.std.specs.List.{sum_by}
use Rattle.pg_inbox_bundles.specs.Bundles.{MessageLists}

-- those to targets that a test picks
abbrev pub messages_where : {M : Type 0} → (ℕ → Bool) → MessageLists M → ℕ
messages_where picks message_lists = sum_by (λ p. cond (picks p.0) (length p.1.envelopes) 0) message_lists
