-- What one partition sends to another in a superstep.
use Rattle.std.specs.Prelude.{ℕ, List, [], ◌∷◌, map, length, Option, None, Some}
use Rattle.std.specs.List.{flat_map}
use Rattle.pg_map.specs.Entries.{value_at}
use Rattle.pg_model.specs.Job.{Combining}
use Rattle.pg_model.specs.Superstep.{targets}
use Rattle.pg_inbox_messages.specs.Contents.{contents_of}
use Rattle.pg_inbox_messages.specs.declared.message_list.Contents.{Contents}
use Rattle.pg_inbox_bundles.specs.Outbox.{Outbox, envelopes_to, without_senders}

-- the messages to each target, by rising target
abbrev pub MessageLists : Type 0 → Type 0
MessageLists M = List (ℕ × Contents M)

-- what others see of the messages to a target: each of them, or one for all where they are combined
pub record Entry (M : Type 0) : Type 0 where
  pub target : ℕ
  pub from : Option ℕ
  pub message : M
  pub count : ℕ

module _ {M : Type 0} where
  -- what these sends are as a bundle
  abbrev pub bundle_of : Option (Combining M) → Outbox M → MessageLists M
  bundle_of combining sent =
      map (λ target. (target, contents_of combining (envelopes_to target sent))) (targets (without_senders sent))

  abbrev pub each_entry : ℕ → List (ℕ × M) → List (Entry M)
  each_entry target envelopes = map (λ l. record { target = target; from = Some l.0; message = l.1; count = 1 })
      envelopes

  abbrev pub entries_of : ℕ → Contents M → List (Entry M)
  entries_of target contents = elim contents.folded [
    | None ↦ each_entry target contents.envelopes
    | Some m ↦ record { target = target; from = None; message = m; count = length contents.envelopes } ∷ []
  ]

  -- all entries of a bundle: by target, and those to one target by sender and order
  abbrev pub entries : MessageLists M → List (Entry M)
  entries message_lists = flat_map (λ p. entries_of p.0 p.1) message_lists

  -- those to one target, if there are any
  abbrev pub entries_in : ℕ → Option (Contents M) → List (Entry M)
  entries_in target None = []
  entries_in target (Some contents) = entries_of target contents

  abbrev pub entries_to : ℕ → MessageLists M → List (Entry M)
  entries_to target message_lists = entries_in target (value_at target message_lists)

  -- what there is of a bundle that may be missing
  abbrev pub message_lists_in : Option (MessageLists M) → MessageLists M
  message_lists_in None = []
  message_lists_in (Some message_lists) = message_lists

  -- the messages to a target, if there are any
  abbrev pub envelopes_in : Option (Contents M) → List (ℕ × M)
  envelopes_in contents = elim contents [ None ↦ [] | Some contents ↦ contents.envelopes ]

  abbrev pub envelopes_at : ℕ → MessageLists M → List (ℕ × M)
  envelopes_at id message_lists = envelopes_in (value_at id message_lists)
