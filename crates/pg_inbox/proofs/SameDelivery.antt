-- Bundles that are the same at a target deliver the same to it.
use Rattle.std.proofs.Common.{◌≡◌, ℕ, List, [], ◌∷◌, ◌++◌, map, Option, None, Some, option_map, refl, sym, ap, ap₂, ◌∙◌, subst₂, flat_map}
use Rattle.std.specs.List.{AllByRecursion}
use Rattle.std.specs.Option.{option_to_list}
use Rattle.pg_global.specs.Combiner.{IsLawful}
use Rattle.pg_map.specs.Entries.{value_at}
use Rattle.pg_model.specs.Job.{Combining}
use Rattle.pg_model.specs.Superstep.{combined}
use Rattle.pg_inbox_messages.specs.Contents.{contents_of, messages}
use Rattle.pg_inbox_messages.specs.Grouping.{any_of}
use Rattle.pg_inbox_messages.specs.declared.message_list.Contents.{Contents}
use Rattle.pg_inbox.specs.Alike.{AllSameAt, DeliverAlike}
use Rattle.pg_inbox_bundles.specs.Bundles.{Entry, MessageLists, bundle_of, entries_in, entries_to, envelopes_at}
use Rattle.pg_inbox_bundles.specs.Holding.{HoldAll, HoldsAt}
use Rattle.pg_inbox.specs.Inboxes.{contents_to, received_of}
use Rattle.pg_inbox_bundles.specs.Ordered.{in_order}
use Rattle.pg_inbox_bundles.specs.Outbox.{Outbox, envelopes_to}
use Rattle.pg_inbox_bundles.proofs.Bundling.{value_at-bundle_of}
use Rattle.pg_inbox_bundles.proofs.ToTarget.{envelopes_at-bundle_of}
use Rattle.pg_inbox.proofs.Delivery.{delivers_received, envelopes_of_all, folded_at, folded_of_all}
use Rattle.pg_inbox_bundles.proofs.Differing.{envelope_of, envelopes_back}
use Rattle.pg_inbox_bundles.proofs.Held.{holds_at}

module _ {M : Type 0} (is_value : M → Type 0) where
  all_hold : (id : ℕ) (bundles : List (MessageLists M)) → AllByRecursion (HoldAll is_value) bundles
      → AllByRecursion (λ b. HoldsAt is_value (value_at id b)) bundles
  all_hold id [] h = tt
  all_hold id (b ∷ bundles) h = (holds_at is_value id b h.0, all_hold id bundles h.1)

module _ {M : Type 0} (id : ℕ) where
  -- the messages that entries have, and with their senders
  heard : List (Entry M) → List M
  heard entries = map (λ e. e.message) entries

  envelopes_heard : List (Entry M) → List (ℕ × M)
  envelopes_heard entries = map (envelope_of id) entries

  -- where messages aren't combined, entries tell them
  stated_apart : (l : List (ℕ × M)) → envelopes_heard (entries_in id (option_map (contents_of None) (any_of l))) ≡ l
  unfolding envelopes_heard
  stated_apart [] = refl
  stated_apart (x ∷ l) = envelopes_back id (x ∷ l)

  -- where they are, what they come to
  stated_together : (c : Combining M) (l : List (ℕ × M))
      → heard (entries_in id (option_map (contents_of (Some c)) (any_of l)))
      ≡ elim (option_map (contents_of (Some c)) (any_of l)) [ None ↦ [] | Some contents ↦ option_to_list contents.folded ]
  unfolding heard
  stated_together c [] = refl
  stated_together c (x ∷ l) = refl

  envelopes_stated : (sent : Outbox M) → envelopes_at id (bundle_of None sent) ≡ envelopes_heard (entries_to id (bundle_of None sent))
  envelopes_stated sent =
      envelopes_at-bundle_of id None sent
      ∙ (sym (stated_apart (envelopes_to id sent))
      ∙ sym (ap (λ o. envelopes_heard (entries_in id o)) (value_at-bundle_of None id sent)))

  fold_stated : (c : Combining M) (sent : Outbox M) → folded_at id (bundle_of (Some c) sent) ≡ heard (entries_to id (bundle_of (Some c) sent))
  fold_stated c sent =
      ap (λ (o : Option (Contents M)). elim o [ None ↦ [] | Some contents ↦ option_to_list contents.folded ]) (value_at-bundle_of (Some c) id sent)
      ∙ (sym (stated_together c (envelopes_to id sent))
      ∙ sym (ap (λ o. heard (entries_in id o)) (value_at-bundle_of (Some c) id sent)))

  -- what is read of each of two lists of bundles is the same where their entries tell it and are the same
  same_read : {X : Type 0} (made : Outbox M → MessageLists M) (read : MessageLists M → List X) (tell : List (Entry M) → List X)
      → ((sent : Outbox M) → read (made sent) ≡ tell (entries_to id (made sent)))
      → (lists lists' : List (Outbox M)) → AllSameAt id (map made lists) (map made lists')
      → flat_map read (map made lists) ≡ flat_map read (map made lists')
  same_read made read tell stated [] [] h = refl
  same_read made read tell stated [] (l ∷ lists') h = absurd h
  same_read made read tell stated (l ∷ lists) [] h = absurd h
  same_read made read tell stated (l ∷ lists) (l' ∷ lists') h =
      ap₂ ◌++◌ (stated l ∙ (ap tell h.0 ∙ sym (stated l'))) (same_read made read tell stated lists lists' h.1)

  same_received : (combining : Option (Combining M)) (lists lists' : List (Outbox M))
      → AllSameAt id (map (bundle_of combining) lists) (map (bundle_of combining) lists')
      → received_of combining (contents_to id (map (bundle_of combining) lists)) ≡ received_of combining (contents_to id (map (bundle_of combining) lists'))
  same_received None lists lists' h =
      ap (λ l. messages (in_order l))
      (envelopes_of_all id (map (bundle_of None) lists)
      ∙ (same_read (bundle_of None) (envelopes_at id) envelopes_heard envelopes_stated lists lists' h
      ∙ sym (envelopes_of_all id (map (bundle_of None) lists'))))
  same_received (Some c) lists lists' h =
      ap (combined (Some c))
      (folded_of_all id (map (bundle_of (Some c)) lists)
      ∙ (same_read (bundle_of (Some c)) (folded_at id) heard (fold_stated c) lists lists' h
      ∙ sym (folded_of_all id (map (bundle_of (Some c)) lists'))))

  pub alike : (is_value : M → Type 0) (combining : Option (Combining M)) → IsLawful is_value combining → (old new : List (MessageLists M))
      → AllByRecursion (HoldAll is_value) old → AllByRecursion (HoldAll is_value) new → DeliverAlike combining id old new
  alike is_value combining law old new hold hold' lists lists' all all' are are' of of' same =
      sym (delivers_received id is_value combining law old (all_hold is_value id old hold) lists all are of)
      ∙ (ap (λ l. received_of combining (contents_to id l)) are
      ∙ (same_received combining lists lists' (subst₂ (AllSameAt id) are are' same)
      ∙ (sym (ap (λ l. received_of combining (contents_to id l)) are')
      ∙ delivers_received id is_value combining law new (all_hold is_value id new hold') lists' all' are' of')))
