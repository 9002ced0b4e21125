-- The messages of a superstep, counted by its bundles or by its records.
use Rattle.std.specs.Prelude.{◌≡◌, ℕ, ◌+◌, false, not, is_some, true, cond, Bool, List, [], ◌∷◌, length, Option, None}
use Rattle.std.specs.Prelude.{Some}
use Rattle.std.specs.List.{count_by, flat_map, range_with_len, slice_get, sum_by}
use Rattle.std.specs.List.Sorted.{IsStrictlySortedBy}
use Rattle.std.specs.Option.{option_map}
use Rattle.std.specs.Ordering.{nat_cmp}
use Rattle.pg_inbox.specs.Handed.{LoggedBundle, MessageLists, TellsChanges, envelopes_at, message_lists_in}
use Rattle.pg_inbox.specs.Handed.{messages_where}
use Rattle.pg_model.specs.Superstep.{has_id}
use Rattle.pg_model.specs.declared.record.Record.{Record}
use Rattle.pg_graph.specs.Rows.{Rows, row_at}
use Rattle.pg_graph.specs.declared.missing.Missing.{Missing}
use Rattle.pg_graph.specs.declared.missing.Missing.TheVariants.{Drop, Create}
use Rattle.pg_inbox.specs.LoggedBundle.{Slots, slot_at}
use Rattle.pg_stats.specs.declared.messages.Counted.{Counted}
use Rattle.pg_stats.specs.declared.messages.Counted.TheVariants.{All, NoVertices, Vertices}
use Rattle.pg_stats.specs.declared.stats.MessageCounts.{MessageCounts}

-- an id is no vertex of a graph
abbrev pub is_no_vertex : Rows → ℕ → Bool
is_no_vertex rows id = not (is_some (row_at id rows))

abbrev pub is_vertex : Rows → ℕ → Bool
is_vertex rows id = is_some (row_at id rows)

abbrev pub is_any : ℕ → Bool
is_any id = true

-- the targets that are counted
abbrev pub is_counted : Counted → ℕ → Bool
is_counted All = is_any
is_counted (NoVertices rows) = is_no_vertex rows
is_counted (Vertices rows) = is_vertex rows

module _ {M : Type 0} where
  -- how many messages of bundles are dropped on a graph
  abbrev pub dropped_of : Missing → Rows → List (MessageLists M) → ℕ
  dropped_of Drop rows bundles = sum_by (messages_where (is_no_vertex rows)) bundles
  dropped_of Create rows bundles = 0

  abbrev pub message_counts_of : Missing → Rows → List (MessageLists M) → MessageCounts
  message_counts_of missing rows bundles =
      record { sent = sum_by (messages_where is_any) bundles; dropped = dropped_of missing rows bundles }

  -- with the messages of one bundle more
  pub record IsWithBundle (missing : Missing) (rows : Rows) (bundle : MessageLists M)
      (before after : MessageCounts) : Type 0 where
    pub sent : after.sent ≡ before.sent + messages_where is_any bundle
    pub dropped : after.dropped ≡ before.dropped + dropped_of missing rows (bundle ∷ [])

  -- how many of these messages are dropped on a graph
  abbrev pub dropped_of_sent : Missing → Rows → List (ℕ × M) → ℕ
  dropped_of_sent Drop rows sent = count_by (λ m. is_no_vertex rows m.0) sent
  dropped_of_sent Create rows sent = 0

  abbrev pub message_counts_of_sent : Missing → Rows → List (ℕ × M) → MessageCounts
  message_counts_of_sent missing rows sent = record { sent = length sent; dropped = dropped_of_sent missing rows sent }

  -- the message counts of a superstep by its records
  abbrev pub message_counts_recorded : {V : Type 0} → Missing → Rows → List (ℕ × Record V M) → MessageCounts
  message_counts_recorded missing rows records = message_counts_of_sent missing rows (flat_map (λ r. r.1.sent) records)

  -- with these messages more
  pub record IsWithSent (missing : Missing) (rows : Rows) (sent : List (ℕ × M))
      (before after : MessageCounts) : Type 0 where
    pub sent_is : after.sent ≡ before.sent + length sent
    pub dropped_is : after.dropped ≡ before.dropped + dropped_of_sent missing rows sent

  -- how many messages a bundle has to those of some ids that a test picks
  abbrev pub messages_among : (ℕ → Bool) → List ℕ → MessageLists M → ℕ
  messages_among picks ids message_lists = sum_by (λ id. cond (picks id) (length (envelopes_at id message_lists)) 0) ids

  -- the targets at which a bundle tells that it differs
  abbrev pub changed_targets_of : LoggedBundle M → List ℕ
  changed_targets_of logged = elim logged.changed [ None ↦ [] | Some ids ↦ ids ]

  -- a bundle, or the empty one where there is none
  abbrev pub bundle_at : Option (LoggedBundle M) → MessageLists M
  bundle_at logged = message_lists_in (option_map (λ l. l.bundle) logged)

  -- the messages of an old bundle that the one after it doesn't have, and those that it has beyond it
  abbrev pub sent_removed : MessageLists M → LoggedBundle M → ℕ
  sent_removed before logged = messages_among is_any (changed_targets_of logged) before

  abbrev pub sent_added : MessageLists M → LoggedBundle M → ℕ
  sent_added before logged = messages_among is_any (changed_targets_of logged) logged.bundle

  -- the same of those that are dropped, where these ids came to the graph or went
  abbrev pub dropped_removed : Missing → Rows → List ℕ → MessageLists M → LoggedBundle M → ℕ
  dropped_removed Drop rows member_changes before logged =
      messages_among (is_no_vertex rows) (changed_targets_of logged) before
      + messages_among (is_vertex rows) member_changes before
  dropped_removed Create rows member_changes before logged = 0

  abbrev pub dropped_added : Missing → Rows → List ℕ → MessageLists M → LoggedBundle M → ℕ
  dropped_added Drop rows member_changes before logged =
      messages_among (is_no_vertex rows) (changed_targets_of logged) logged.bundle
      + messages_among (is_no_vertex rows) member_changes before
  dropped_added Create rows member_changes before logged = 0

  -- the change of a count at one receiver, and at n of them
  abbrev pub vertex_counts_delta_at : (MessageLists M → LoggedBundle M → ℕ) → Option (LoggedBundle M)
      → Option (LoggedBundle M) → ℕ
  vertex_counts_delta_at count before None = 0
  vertex_counts_delta_at count before (Some logged) = count (bundle_at before) logged

  abbrev pub vertex_counts_delta : (MessageLists M → LoggedBundle M → ℕ) → Slots M → ℕ → ℕ → List (LoggedBundle M) → ℕ
      → ℕ
  vertex_counts_delta count logs s p bundles n =
      sum_by (λ q. vertex_counts_delta_at count (slot_at logs s p q) (slice_get bundles q)) (range_with_len 0 n)

  -- message counts without what is removed and with what is added
  pub record HasMessageCountDelta (missing : Missing) (rows : Rows) (member_changes : List ℕ) (logs : Slots M) (s p : ℕ)
      (bundles : List (LoggedBundle M))
      (before after : MessageCounts) : Type 0 where
    pub sent : after.sent + vertex_counts_delta sent_removed logs s p bundles (length bundles)
        ≡ before.sent + vertex_counts_delta sent_added logs s p bundles (length bundles)
    pub dropped : after.dropped + vertex_counts_delta (dropped_removed missing rows member_changes) logs s p bundles
        (length bundles)
        ≡ before.dropped + vertex_counts_delta (dropped_added missing rows member_changes) logs s p bundles
        (length bundles)

  -- a bundle tells where it differs from an old one, which the logs have
  abbrev pub IsLoggedChange : MessageLists M → MessageLists M → Option (LoggedBundle M) → Option (LoggedBundle M)
      → Type 0
  IsLoggedChange before after old None = ⊥
  IsLoggedChange before after old (Some logged) =
      (bundle_at old ≡ before) × ((logged.bundle ≡ after) × TellsChanges before logged)

-- just the ids that are a vertex of only one of two graphs, rising
pub record AreMemberChanges (ids : List ℕ) (before after : Rows) : Type 0 where
  pub rise : IsStrictlySortedBy nat_cmp ids
  pub member_changes : (id : ℕ) → has_id ids id ≡ true → is_vertex after id ≡ is_no_vertex before id
  pub others : (id : ℕ) → has_id ids id ≡ false → is_vertex after id ≡ is_vertex before id
