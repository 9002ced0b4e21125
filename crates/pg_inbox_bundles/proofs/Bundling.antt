-- A bundle has at each target what goes to it of the sends.
use Rattle.std.proofs.Common.{◌≡◌, ℕ, ◌==◌, ◌||◌, not, Bool, true, false, cond, List, [], ◌∷◌, map}
use Rattle.std.proofs.Common.{Option, None, Some, refl, sym, ap, ◌∙◌, subst, arith, ⊎_elim, eqb, eqb-true}
use Rattle.std.specs.List.{AllByRecursion, filter}
use Rattle.std.specs.List.Sorted.{IsNonDecreasingBy, IsStrictlySortedBy}
use Rattle.std.specs.BTreeMap.{is_at}
use Rattle.std.specs.Map.{keys_of}
use Rattle.std.specs.Option.{option_map}
use Rattle.std.specs.Ordering.{nat_cmp}
use Rattle.std.proofs.lemmas.Bool.{cases_eq}
use Rattle.std.proofs.lemmas.Bool.Decides.{nat_tests}
use Rattle.std.proofs.lemmas.List.Elements.{filter_agree}
use Rattle.std.proofs.lemmas.Map.Entries.{lookup_head, lookup_tail}
use Rattle.std.proofs.lemmas.Simd.{map-map}
use Rattle.pg_sort.specs.ById.{AreById, StandAt}
use Rattle.pg_sort.proofs.Taken.{taken_rise, taken_same}
use Rattle.pg_map.specs.Entries.{HasRisingIds, value_at}
use Rattle.pg_map.proofs.Parts.{rises_after}
use Rattle.pg_map.proofs.Rising.{at_other, at_same, none_past, same_entries}
use Rattle.pg_model.specs.Job.{Combining}
use Rattle.pg_model.specs.Superstep.{has_id, is_empty, targets}
use Rattle.pg_model.proofs.LawsMade.{has_id-targets, targets-rise}
use Rattle.pg_inbox_messages.specs.Contents.{contents_of}
use Rattle.pg_inbox_messages.specs.Grouping.{AreGroups, any_of, groups_of, items_to}
use Rattle.pg_inbox_messages.proofs.Grouping.{groups_of_same, some_not_empty}
use Rattle.pg_inbox_bundles.specs.Bundles.{MessageLists, bundle_of}
use Rattle.pg_inbox_bundles.specs.Outbox.{Outbox, as_item, envelopes_to, without_senders}

pub at_id : (q id : ℕ) → is_at (nat_cmp q) id ≡ (id == q)
at_id q id = grind (arith, nat_tests)

-- ---- look-ups

module _ {X Y : Type 0} (f : X → Y) where
  -- of entries whose values were made of others
  pub value_at-values : (q : ℕ) (es : List (ℕ × X)) → value_at q (map (λ e. (e.0, f e.1)) es) ≡ option_map f (value_at q es)
  value_at-values q [] = refl
  value_at-values q (e ∷ es) = by (is_at (nat_cmp q) e.0) (value_at-values q es)
    where
      by : (b : Bool) → value_at q (map (λ e. (e.0, f e.1)) es) ≡ option_map f (value_at q es)
          → cond b (Some (f e.1)) (value_at q (map (λ e. (e.0, f e.1)) es)) ≡ option_map f (cond b (Some e.1) (value_at q es))
      by true h = refl
      by false h = h

  keys-values : (es : List (ℕ × X)) → keys_of (map (λ e. (e.0, f e.1)) es) ≡ keys_of es
  keys-values [] = refl
  keys-values (e ∷ es) = ap (λ l. e.0 ∷ l) (keys-values es)

  pub rises-values : (es : List (ℕ × X)) → HasRisingIds es → HasRisingIds (map (λ e. (e.0, f e.1)) es)
  rises-values es rise = subst (IsStrictlySortedBy nat_cmp) (sym (keys-values es)) rise

module _ {Y : Type 0} (f : ℕ → Y) where
  -- of entries that are made of their ids
  value_at-ids : (q : ℕ) (is : List ℕ) → value_at q (map (λ i. (i, f i)) is) ≡ cond (has_id is q) (Some (f q)) None
  value_at-ids q [] = refl
  value_at-ids q (i ∷ is) = ap (λ b. cond b (Some (f i)) (value_at q (map (λ i. (i, f i)) is))) (at_id q i) ∙ by (i == q) refl (value_at-ids q is)
    where
      by : (b : Bool) → (i == q) ≡ b → value_at q (map (λ i. (i, f i)) is) ≡ cond (has_id is q) (Some (f q)) None
          → cond b (Some (f i)) (value_at q (map (λ i. (i, f i)) is)) ≡ cond (b || has_id is q) (Some (f q)) None
      by true e h = ap (λ n. Some (f n)) (eqb-true i q e)
      by false e h = h

  keys-ids : (is : List ℕ) → keys_of (map (λ i. (i, f i)) is) ≡ is
  keys-ids [] = refl
  keys-ids (i ∷ is) = ap (λ l. i ∷ l) (keys-ids is)

-- ---- what goes to a target

module _ {M : Type 0} where
  -- some message goes to it, or none does
  no_envelopes : List (ℕ × M) → Bool
  no_envelopes l = is_empty l

  has_target : (q : ℕ) (sent : Outbox M) → has_id (map (λ m. m.0) (without_senders sent)) q ≡ not (no_envelopes (envelopes_to q sent))
  unfolding no_envelopes
  has_target q [] = refl
  has_target q (s ∷ sent) = by (s.1 == q) (has_target q sent)
    where
      front : ℕ × M
      front = (s.0, s.2)

      by : (b : Bool) → has_id (map (λ m. m.0) (without_senders sent)) q ≡ not (no_envelopes (envelopes_to q sent))
          → (b || has_id (map (λ m. m.0) (without_senders sent)) q) ≡ not
          (no_envelopes (map (λ s. (s.0, s.2)) (cond b (s ∷ filter (λ s. s.1 == q) sent) (filter (λ s. s.1 == q) sent))))
      by true h = ap not (sym (some_not_empty front (envelopes_to q sent)))
      by false h = h

  some_or_none : {Y : Type 0} (f : List (ℕ × M) → Y) (l : List (ℕ × M)) → cond (not (no_envelopes l)) (Some (f l)) None ≡ option_map f (any_of l)
  unfolding no_envelopes
  some_or_none f [] = refl
  some_or_none f (x ∷ l) = ap (λ b. cond (not b) (Some (f (x ∷ l))) None) (some_not_empty x l)

  module _ (combining : Option (Combining M)) where
    -- each target has what goes to it
    pub value_at-bundle_of : (q : ℕ) (sent : Outbox M)
        → value_at q (bundle_of combining sent) ≡ option_map (contents_of combining) (any_of (envelopes_to q sent))
    value_at-bundle_of q sent =
        value_at-ids (λ target. contents_of combining (envelopes_to target sent)) q (targets (without_senders sent))
        ∙ (ap (λ b. cond b (Some (contents_of combining (envelopes_to q sent))) None) (has_id-targets (without_senders sent) q ∙ has_target q sent)
        ∙ some_or_none (contents_of combining) (envelopes_to q sent))

    pub rises-bundle_of : (sent : Outbox M) → HasRisingIds (bundle_of combining sent)
    rises-bundle_of sent =
        subst (IsStrictlySortedBy nat_cmp)
        (sym (keys-ids (λ target. contents_of combining (envelopes_to target sent)) (targets (without_senders sent))))
        (targets-rise (without_senders sent))

    -- and that tells the bundle
    pub is_bundle_of : (message_lists : MessageLists M) (sent : Outbox M) → HasRisingIds message_lists
        → ((q : ℕ) → value_at q message_lists ≡ option_map (contents_of combining) (any_of (envelopes_to q sent)))
        → message_lists ≡ bundle_of combining sent
    is_bundle_of message_lists sent rise stated =
        same_entries message_lists (bundle_of combining sent) rise (rises-bundle_of sent) (λ q. stated q ∙ sym (value_at-bundle_of q sent))

  items-envelopes : (q : ℕ) (sent : Outbox M) → items_to q (map as_item sent) ≡ envelopes_to q sent
  items-envelopes q [] = refl
  items-envelopes q (s ∷ sent) = by (s.1 == q) (items-envelopes q sent)
    where
      by : (b : Bool) → items_to q (map as_item sent) ≡ envelopes_to q sent
          → map (λ i. i.1) (cond b (as_item s ∷ filter (λ i. i.0 == q) (map as_item sent)) (filter (λ i. i.0 == q) (map as_item sent))) ≡ map
          (λ s. (s.0, s.2)) (cond b (s ∷ filter (λ s. s.1 == q) sent) (filter (λ s. s.1 == q) sent))
      by true h = ap (λ l. (s.0, s.2) ∷ l) h
      by false h = h

  -- the contents of groups are the bundle
  pub bundle_from_groups : (combining : Option (Combining M)) (sent : Outbox M)
      {groups : List (ℕ × List (ℕ × M))} {message_lists : MessageLists M}
      → AreGroups (map as_item sent) groups → message_lists ≡ map (λ g. (g.0, contents_of combining g.1)) groups
      → (message_lists ≡ bundle_of combining sent) × HasRisingIds message_lists
  bundle_from_groups combining sent {groups} {message_lists} grouped made =
      let rise : HasRisingIds message_lists = subst HasRisingIds (sym made) (rises-values (contents_of combining) groups grouped.rise) in (
        is_bundle_of combining message_lists sent rise (λ q. ap (value_at q) made
            ∙ (value_at-values (contents_of combining) q groups
            ∙ ap (option_map (contents_of combining)) (grouped.stated q ∙ ap any_of (items-envelopes q sent)))),
        rise,
      )

-- ---- sends by their targets

turned : (a b : ℕ) → (a == b) ≡ eqb b a
turned a b = grind (arith, nat_tests)

module _ {X : Type 0} (items : List (ℕ × X)) (order : List (ℕ × ℕ)) (taken : List (ℕ × X)) where
  module _ (by_id : AreById (map (λ i. i.0) items) order) (zip : StandAt items order taken) where
    rise_taken : IsNonDecreasingBy (λ i. i.0) taken
    rise_taken = taken_rise (λ i. i.0) items order taken by_id zip

    -- what stands at the places of ids in order
    pub groups_taken : AreGroups items (groups_of taken)
    groups_taken = groups_of_same items taken rise_taken
        (λ q. filter_agree (λ i. i.0 == q) (λ i. eqb q i.0) (λ i. turned i.0 q) taken
        ∙ taken_same (λ i. i.0) items order taken by_id zip q
        ∙ sym (filter_agree (λ i. i.0 == q) (λ i. eqb q i.0) (λ i. turned i.0 q) items))

module _ {M : Type 0} (sent : Outbox M) (order : List (ℕ × ℕ)) (envelopes : List (ℕ × (ℕ × M))) where
  module _ (by_id : AreById (map (λ s. s.1) sent) order) (zip : StandAt (map as_item sent) order envelopes) where
    keyed : AreById (map (λ i. i.0) (map as_item sent)) order
    keyed = subst (λ l. AreById l order) (sym (map-map (λ i. i.0) as_item sent)) by_id

    pub rise_by_id : IsNonDecreasingBy (λ i. i.0) envelopes
    rise_by_id = rise_taken (map as_item sent) order envelopes keyed zip

    -- what stands at the places of the targets in order
    pub groups_by_id : AreGroups (map as_item sent) (groups_of envelopes)
    groups_by_id = groups_taken (map as_item sent) order envelopes keyed zip

-- ---- each entry, from the look-ups

module _ {X : Type 0} (P : ℕ × X → Type 0) where
  pub all_from_lookups : (es : List (ℕ × X)) → HasRisingIds es → ((q : ℕ) (x : X) → value_at q es ≡ Some x → P (q, x)) → AllByRecursion P es
  all_from_lookups [] rise stated = tt
  all_from_lookups (e ∷ es) rise stated = (
    stated e.0 e.1 (lookup_head (is_at (nat_cmp e.0)) e es (at_same e.0)),
    all_from_lookups es (rises_after e es rise) (λ q x h. ⊎_elim
        (λ (same : q ≡ e.0). absurd (none_some x (sym (none_past q e es rise (ap (λ k. is_at (nat_cmp k) e.0) same ∙ at_same e.0)) ∙ h)))
        (λ (apart : q ≡ e.0 → ⊥). stated q x (lookup_tail (is_at (nat_cmp q)) e es (at_other q e.0 apart) ∙ h))
        (cases_eq q e.0)),
  )
    where
      none_some : (x : X) → ◌≡◌ {A = Option X} None (Some x) → ⊥
      none_some x h = cc
