-- What the bundles of a superstep come to at one target, and at all of them.
use Rattle.std.specs.Prelude.{◌≡◌, ℕ, Bool, List, [], map, Option, None, Some, is_some}
use Rattle.std.specs.List.{flat_map, list_any}
use Rattle.std.specs.Option.{option_to_list}
use Rattle.pg_map.specs.Entries.{HasRisingIds, value_at}
use Rattle.pg_model.specs.Job.{Combining}
use Rattle.pg_model.specs.Superstep.{combined, delivered}
use Rattle.pg_inbox_messages.specs.Contents.{messages}
use Rattle.pg_inbox_messages.specs.declared.message_list.Contents.{Contents}
use Rattle.pg_inbox_bundles.specs.Bundles.{MessageLists, bundle_of}
use Rattle.pg_inbox_bundles.specs.Ordered.{in_order}
use Rattle.pg_inbox_bundles.specs.Outbox.{AreAllOf, Outbox, without_senders}

module _ {M : Type 0} where
  -- of whatever sends these are the bundles: what the superstep delivers of all of them
  abbrev pub Delivers : Option (Combining M) → ℕ → List (MessageLists M) → List M → Type 0
  Delivers combining id bundles inbox =
      (lists : List (Outbox M)) (all : Outbox M) → bundles ≡ map (bundle_of combining) lists → AreAllOf lists all
      → inbox ≡ delivered combining id (without_senders all)

  -- what bundles have for a target, bundle by bundle
  abbrev pub contents_to : ℕ → List (MessageLists M) → List (Contents M)
  contents_to id bundles = flat_map (λ b. option_to_list (value_at id b)) bundles

  -- what the messages to a target come to in each bundle, where they are combined
  abbrev pub folded_of : {T : Type 0} → List (T × Contents M) → List M
  folded_of message_lists = flat_map (λ c. option_to_list c.folded) (map (λ p. p.1) message_lists)

  -- an inbox made of that: the messages by sender, or the one that they come to
  abbrev pub received_of : Option (Combining M) → List (Contents M) → List M
  received_of None contents = messages (in_order (flat_map (λ c. c.envelopes) contents))
  received_of (Some c) contents = combined (Some c) (flat_map (λ c. option_to_list c.folded) contents)

  -- the inboxes made of that of each target
  abbrev pub inboxes_of : Option (Combining M) → List (ℕ × List (Contents M)) → List (ℕ × List M)
  inboxes_of combining groups = map (λ g. (g.0, received_of combining g.1)) groups

  -- those of one bundle, where messages aren't combined
  abbrev pub each_inbox : MessageLists M → List (ℕ × List M)
  each_inbox message_lists = map (λ p. (p.0, messages (in_order p.1.envelopes))) message_lists

  -- the inbox at an id
  abbrev pub inbox_at : ℕ → List (ℕ × List M) → List M
  inbox_at id inboxes = elim (value_at id inboxes) [ None ↦ [] | Some inbox ↦ inbox ]

  -- one of the bundles has a message to a target
  abbrev pub is_receiver : List (MessageLists M) → ℕ → Bool
  is_receiver bundles id = list_any (λ b. is_some (value_at id b)) bundles

  -- the inboxes of just the ids to which there is a message, by rising id
  pub record AreInboxes (combining : Option (Combining M)) (bundles : List (MessageLists M))
      (inboxes : List (ℕ × List M)) : Type 0 where
    pub rise : HasRisingIds inboxes
    pub receivers : (id : ℕ) → is_some (value_at id inboxes) ≡ is_receiver bundles id
    pub stated : (id : ℕ) → Delivers combining id bundles (inbox_at id inboxes)
