-- A bundle as it lies in memory: envelopes as they were sent, and what is changed of them since.
use Rattle.std.specs.Prelude.{ℕ, cond, not, ◌&&◌, is_some, List, Option, None, Some}
use Rattle.std.specs.List.Sorted.{IsNonDecreasingBy}
use Rattle.pg_map.specs.Entries.{ChangesRise, with_changes}
use Rattle.pg_inbox_messages.specs.Contents.{message_lists_of}
use Rattle.pg_model.specs.Superstep.{is_empty}
use Rattle.pg_inbox_messages.specs.Grouping.{groups_of, items_to}
use Rattle.pg_inbox_messages.specs.declared.message_list.Contents.{Contents}
use Rattle.pg_inbox_bundles.specs.Bundles.{MessageLists}
use Rattle.pg_inbox_bundles.specs.Holding.{HoldAll}

module _ {M : Type 0} where
  -- the message list of each target of envelopes by target
  abbrev pub sent_message_lists : List (ℕ × (ℕ × M)) → MessageLists M
  sent_message_lists envelopes = message_lists_of None (groups_of envelopes)

  -- those with changes
  abbrev pub message_lists_with : List (ℕ × Option (Contents M)) → List (ℕ × (ℕ × M)) → MessageLists M
  message_lists_with changes envelopes = with_changes changes (sent_message_lists envelopes)

  -- what a change gives the map of a bundle: nothing where it leaves its target no messages and the envelopes have none
  -- to it
  abbrev pub needed : List (ℕ × (ℕ × M)) → ℕ × Option (Contents M) → ℕ × Option (Option (Contents M))
  needed envelopes change =
      (change.0, cond (not (is_some change.1) && is_empty (items_to change.0 envelopes)) None (Some change.1))

  -- envelopes stand by rising target, changes too, and each message is a value
  pub record IsSound (is_value : M → Type 0) (changes : List (ℕ × Option (Contents M)))
      (envelopes : List (ℕ × (ℕ × M))) : Type 0 where
    pub envelopes_rise : IsNonDecreasingBy (λ i. i.0) envelopes
    pub changes_rise : ChangesRise changes
    pub hold : HoldAll is_value (message_lists_with changes envelopes)
