-- What is done to the messages to one target.
use Rattle.std.specs.Prelude.{ℕ, not, List, [], ◌∷◌, ◌++◌, map, Option}
use Rattle.std.specs.List.{filter, flat_map}
use Rattle.std.specs.Option.{option_map}
use Rattle.pg_map.specs.Entries.{value_at}
use Rattle.pg_model.specs.Job.{Combining}
use Rattle.pg_model.specs.Superstep.{has_id}
use Rattle.pg_inbox_messages.specs.Contents.{contents_of}
use Rattle.pg_inbox_messages.specs.Grouping.{any_of}
use Rattle.pg_inbox_messages.specs.declared.message_list.Contents.{Contents}
use Rattle.pg_inbox_bundles.specs.Bundles.{MessageLists, envelopes_in}
use Rattle.pg_inbox_bundles.specs.Ordered.{in_order}
use Rattle.pg_inbox_bundles.specs.Outbox.{Outbox}
use Rattle.pg_inbox_bundles.specs.declared.patching.MessageEdit.{MessageEdit}
use Rattle.pg_inbox_bundles.specs.declared.patching.MessageEdit.TheVariants.{Retracted, Added}

module _ {M : Type 0} where
  -- the messages of all other senders
  abbrev pub others : List ℕ → List (ℕ × M) → List (ℕ × M)
  others senders envelopes = filter (λ l. not (has_id senders l.0)) envelopes

  abbrev pub retracted_by : MessageEdit M → List ℕ
  retracted_by (Retracted sender) = sender ∷ []
  retracted_by (Added sender message) = []

  abbrev pub added_by : MessageEdit M → List (ℕ × M)
  added_by (Retracted sender) = []
  added_by (Added sender message) = (sender, message) ∷ []

  -- whose messages are retracted
  abbrev pub senders_of : List (MessageEdit M) → List ℕ
  senders_of message_edits = flat_map retracted_by message_edits

  -- the messages that are added
  abbrev pub inserted : List (MessageEdit M) → List (ℕ × M)
  inserted message_edits = flat_map added_by message_edits

  -- what becomes of the messages to a target
  abbrev pub edited : List (MessageEdit M) → List (ℕ × M) → List (ℕ × M)
  edited message_edits envelopes = in_order (others (senders_of message_edits) envelopes ++ inserted message_edits)

  -- and what the bundle has of them
  abbrev pub edited_in : Option (Combining M) → Option (Contents M) → List (MessageEdit M) → Option (Contents M)
  edited_in combining old message_edits =
      option_map (contents_of combining) (any_of (edited message_edits (envelopes_in old)))

  abbrev pub edited_at : Option (Combining M) → MessageLists M → ℕ × List (MessageEdit M) → Option (Contents M)
  edited_at combining old group = edited_in combining (value_at group.0 old) group.1

  abbrev pub changes_of : Option (Combining M) → MessageLists M → List (ℕ × List (MessageEdit M))
      → List (ℕ × Option (Contents M))
  changes_of combining old groups = map (λ g. (g.0, edited_at combining old g)) groups

  -- what is retracted and added, by target
  abbrev pub as_retraction : ℕ × ℕ → ℕ × MessageEdit M
  as_retraction w = (w.1, Retracted w.0)

  abbrev pub as_addition : ℕ × ℕ × M → ℕ × MessageEdit M
  as_addition s = (s.1, Added s.0 s.2)

  abbrev pub message_edits_of : List (ℕ × ℕ) → Outbox M → List (ℕ × MessageEdit M)
  message_edits_of retracted added = map as_retraction retracted ++ map as_addition added
