-- What a step sends, and what of the old run it retracts, by the changes of records; and what records send.
use Rattle.std.specs.Prelude.{◌≡◌, ℕ, ◌<◌, List, [], ◌++◌, map, slice_index_or, Option, None, Some}
use Rattle.std.specs.List.{filter, flat_map}
use Rattle.pg_inbox.specs.Handed.{IsPatched, LoggedBundle, Outbox, TellsChanges, bundle_of}
use Rattle.pg_model.specs.Job.{Combining}
use Rattle.pg_model.specs.Share.{belongs}
use Rattle.pg_model.specs.declared.record.Record.{Record}
use Rattle.pg_trace.specs.Trace.{Trace, record_at}

-- items to one of n partitions, of items with their targets
abbrev pub items_to : {X : Type 0} → ℕ → ℕ → List (ℕ × X) → List X
items_to n q items = map (λ i. i.1) (filter (λ i. belongs n q i.0) items)

module _ {X : Type 0} where
  -- lists of what goes to each of n partitions
  abbrev pub AreParts : ℕ → List (ℕ × X) → List (List X) → Type 0
  AreParts n items parts = (q : ℕ) → q < n → slice_index_or parts q [] ≡ items_to n q items

  -- and of more items after what was there
  abbrev pub HaveMore : ℕ → List (ℕ × X) → List (List X) → List (List X) → Type 0
  HaveMore n more before after = (items : List (ℕ × X)) → AreParts n items before → AreParts n (items ++ more) after

module _ {V M : Type 0} where
  -- what a vertex sends by a record, if it has one, with the targets
  abbrev pub sends_by : ℕ → Option (Record V M) → List (ℕ × (ℕ × ℕ × M))
  sends_by id None = []
  sends_by id (Some r) = map (λ m. (m.0, (id, m.0, m.1))) r.sent

  -- to whom it sent by it
  abbrev pub pairs_by : ℕ → Option (Record V M) → List (ℕ × (ℕ × ℕ))
  pairs_by id None = []
  pairs_by id (Some r) = map (λ m. (m.0, (id, m.0))) r.sent

  -- what is sent by a change of records
  abbrev pub sends_of : ℕ × Option (Record V M) → List (ℕ × (ℕ × ℕ × M))
  sends_of change = sends_by change.0 change.1

  -- by records
  abbrev pub sends_by_records : List (ℕ × Record V M) → List (ℕ × (ℕ × ℕ × M))
  sends_by_records records = flat_map (λ r. sends_by r.0 (Some r.1)) records

  -- what the trace of the old run has sent by the vertex of a change
  abbrev pub pairs_of : Trace V M → ℕ → ℕ × Option (Record V M) → List (ℕ × (ℕ × ℕ))
  pairs_of old s change = pairs_by change.0 (record_at change.0 s old)

module _ {M : Type 0} where
  -- the bundle of these sends, of which nothing else is known
  abbrev pub IsFresh : Option (Combining M) → Outbox M → Option (LoggedBundle M) → Type 0
  IsFresh combining sends None = ⊥
  IsFresh combining sends (Some logged) = (logged.bundle ≡ bundle_of combining sends) × (logged.changed ≡ None)

  -- the old bundle, if there is one, with messages retracted and added; or the fresh one of what is added
  abbrev pub IsRebuilt : Option (Combining M) → List (ℕ × ℕ) → Outbox M → Option (LoggedBundle M)
      → Option (LoggedBundle M) → Type 0
  IsRebuilt combining retracted added before None = ⊥
  IsRebuilt combining retracted added None (Some logged) = IsFresh combining added (Some logged)
  IsRebuilt combining retracted added (Some before) (Some logged) =
      IsPatched combining retracted added before.bundle logged.bundle × TellsChanges before.bundle logged
