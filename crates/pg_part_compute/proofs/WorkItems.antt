-- Vertices with what is delivered to each: which they are.
use Rattle.std.proofs.Common.{◌≡◌, ℕ, ◌+◌, ◌<◌, ◌==◌, ◌||◌, Bool, true, false, cond, List, [], ◌∷◌, map, Option}
use Rattle.std.proofs.Common.{None, Some, is_some, option_map, unwrap_or, refl, sym, ap, ◌∙◌, true≢false, subst, arith}
use Rattle.std.specs.List.Sorted.{IsStrictlySortedBy}
use Rattle.std.specs.Map.{keys_of}
use Rattle.std.specs.Option.{option_or}
use Rattle.std.specs.Ordering.{nat_cmp}
use Rattle.std.proofs.lemmas.Option.{none-some, same_Some}
use Rattle.pg_inbox.specs.Handed.{MessageLists}
use Rattle.pg_inbox.specs.Inboxes.{AreInboxes, Delivers}
use Rattle.pg_inbox.proofs.Handed.{all_from_lookups, rises-values, value_at-values}
use Rattle.pg_map.specs.Entries.{ChangesRise, HasRisingIds, value_at}
use Rattle.pg_map.proofs.Changing.{rises-changes, value_at-with_changes}
use Rattle.pg_map.proofs.Parts.{From, above_first, from_first, from_weaker}
use Rattle.pg_map.proofs.Turns.{passed, put, skipped}
use Rattle.pg_model.specs.Job.{Combining}
use Rattle.pg_model.specs.Superstep.{has_id}
use Rattle.pg_model.proofs.LawsPresent.{at_key}
use Rattle.pg_part_compute.specs.VertexPairs.{AreWorkItems}
use Rattle.pg_part_compute.specs.Lists.{empty_inboxes, with_empty}

pub nothing_rises : (X : Type 0) → HasRisingIds {V = X} []
unfolding IsStrictlySortedBy
nothing_rises X = tt

module _ {X : Type 0} where
  -- an id is among the keys where something is found at it
  pub has_key : (id : ℕ) (es : List (ℕ × X)) → is_some (value_at id es) ≡ has_id (keys_of es) id
  has_key id [] = refl
  has_key id (e ∷ es) = ap (λ (b : Bool). is_some (cond b (Some e.1) (value_at id es))) (at_key id e.0) ∙ by (e.0 == id) (has_key id es)
    where
      by : (b : Bool) → is_some (value_at id es) ≡ has_id (keys_of es) id → is_some (cond b (Some e.1) (value_at id es)) ≡ (b || has_id (keys_of es) id)
      by true h = refl
      by false h = h

  pub not_key : (id : ℕ) (es : List (ℕ × X)) → has_id (keys_of es) id ≡ false → value_at id es ≡ None
  not_key id es h = by (value_at id es) refl
    where
      by : (o : Option X) → value_at id es ≡ o → o ≡ None
      by None e = refl
      by (Some x) e = absurd (true≢false (ap is_some (sym e) ∙ (has_key id es ∙ h)))

-- ---- inboxes, and empty ones for ids that have none

module _ (M : Type 0) where
  keys-empty : (ids : List ℕ) → keys_of (empty_inboxes {M = M} ids) ≡ ids
  keys-empty [] = refl
  keys-empty (k ∷ ids) = ap (λ l. k ∷ l) (keys-empty ids)

  rises-empty : (ids : List ℕ) → IsStrictlySortedBy nat_cmp ids → HasRisingIds (empty_inboxes {M = M} ids)
  rises-empty ids rise = subst (IsStrictlySortedBy nat_cmp) (sym (keys-empty ids)) rise

  value_at-empty : (ids : List ℕ) (id : ℕ) → value_at id (empty_inboxes {M = M} ids) ≡ cond (has_id ids id) (Some []) None
  value_at-empty [] id = refl
  value_at-empty (k ∷ ids) id =
      ap (λ (b : Bool). cond b (Some []) (value_at id (empty_inboxes {M = M} ids))) (at_key id k) ∙ by (k == id) _ (value_at-empty ids id)
    where
      by : (b : Bool) (o : Option (List M)) → o ≡ cond (has_id ids id) (Some []) None → cond b (Some []) o ≡ cond (b || has_id ids id) (Some []) None
      by true o h = refl
      by false o h = h

module _ {M : Type 0} where
  module _ (id : ℕ) (inbox : List M) (later : List (ℕ × List M)) (rise : HasRisingIds ((id, inbox) ∷ later)) where
    given : List (ℕ × List M) → List (ℕ × Option (List M))
    given inboxes = map (λ w. (w.0, Some w.1)) inboxes

    rising : ChangesRise (given ((id, inbox) ∷ later))
    unfolding given
    rising = rises-values Some ((id, inbox) ∷ later) rise

    -- an id below the next inbox has an empty one
    pub empty_below : (k : ℕ) (ids : List ℕ) → k < id → with_empty (k ∷ ids) ((id, inbox) ∷ later) ≡ (k, []) ∷ with_empty ids ((id, inbox) ∷ later)
    unfolding given
    empty_below k ids h = passed (id, Some inbox) (given later) rising (k, []) (empty_inboxes ids) h

    -- ids above it are left
    left_above : (ids : List ℕ) → From (id + 1) (empty_inboxes {M = M} ids) → with_empty ids ((id, inbox) ∷ later) ≡ (id, inbox) ∷ with_empty ids later
    unfolding given
    left_above ids above = put (id, Some inbox) (given later) rising (empty_inboxes ids) above inbox refl

    pub none_left : (ids : List ℕ) → ids ≡ [] → with_empty ids ((id, inbox) ∷ later) ≡ (id, inbox) ∷ with_empty ids later
    none_left ids none = left_above ids (subst (λ l. From (id + 1) (empty_inboxes {M = M} l)) (sym none) tt)

    pub first_above : (k : ℕ) (ids : List ℕ) → IsStrictlySortedBy nat_cmp (k ∷ ids) → id < k
        → with_empty (k ∷ ids) ((id, inbox) ∷ later) ≡ (id, inbox) ∷ with_empty (k ∷ ids) later
    first_above k ids ids_rise h =
        left_above (k ∷ ids)
        (from_weaker (id + 1) k (empty_inboxes {M = M} (k ∷ ids)) (omega arith) (from_first (k, []) (empty_inboxes ids) (rises-empty M (k ∷ ids) ids_rise)))

    -- its own id has it
    pub first_at : (k : ℕ) (ids : List ℕ) → IsStrictlySortedBy nat_cmp (k ∷ ids) → k ≡ id
        → with_empty (k ∷ ids) ((id, inbox) ∷ later) ≡ (id, inbox) ∷ with_empty ids later
    unfolding given
    first_at k ids ids_rise same =
        let rise = rises-empty M (k ∷ ids) ids_rise in
        skipped (id, Some inbox) (given later) rising (k, []) (empty_inboxes ids) same rise
        ∙ left_above ids (subst (λ n. From (n + 1) (empty_inboxes {M = M} ids)) same (above_first (k, []) (empty_inboxes ids) rise))

  -- all that receive something
  pub are_receivers : (combining : Option (Combining M)) (bundles : List (MessageLists M)) (inboxes : List (ℕ × List M)) → AreInboxes combining bundles inboxes
      → AreWorkItems combining bundles [] true inboxes
  are_receivers combining bundles inboxes are = record {
    rise = are.rise;
    delivered = all_from_lookups (λ c. Delivers combining c.0 bundles c.1) inboxes are.rise (λ id inbox e. stated id (Some inbox) e);
    have = λ id h. absurd (true≢false (sym h));
    others = λ _ id h. stated id None (not_key id inboxes h);
  }
    where
      stated : (id : ℕ) (o : Option (List M)) → value_at id inboxes ≡ o → Delivers combining id bundles (elim o [ None ↦ [] | Some inbox ↦ inbox ])
      stated id o e = subst (λ (o : Option (List M)). Delivers combining id bundles (elim o [ None ↦ [] | Some inbox ↦ inbox ])) e (are.stated id)

  module _ (combining : Option (Combining M)) (bundles : List (MessageLists M)) (ids : List ℕ) (inboxes : List (ℕ × List M))
      (ids_rise : IsStrictlySortedBy nat_cmp ids) (are : AreInboxes combining bundles inboxes) where
    all : List (ℕ × List M)
    all = with_empty ids inboxes

    at : (id : ℕ) → value_at id all ≡ option_or (value_at id inboxes) (cond (has_id ids id) (Some []) None)
    unfolding all
    at id =
        value_at-with_changes (map (λ w. (w.0, Some w.1)) inboxes) (empty_inboxes ids) id (rises-values Some inboxes are.rise) (rises-empty M ids ids_rise)
        ∙ (ap (λ o. unwrap_or o (value_at id (empty_inboxes ids))) (value_at-values Some id inboxes)
        ∙ (ap (unwrap_or (option_map Some (value_at id inboxes))) (value_at-empty M ids id) ∙ by (value_at id inboxes)))
      where
        by : (o : Option (List M)) → unwrap_or (option_map Some o) (cond (has_id ids id) (Some []) None) ≡ option_or o (cond (has_id ids id) (Some []) None)
        by None = refl
        by (Some inbox) = refl

    rises : HasRisingIds all
    unfolding all
    rises = rises-changes (map (λ w. (w.0, Some w.1)) inboxes) (empty_inboxes ids) (rises-empty M ids ids_rise)

    pub are_work_items : AreWorkItems combining bundles ids true (with_empty ids inboxes)
    unfolding all
    are_work_items = record {
      rise = rises;
      delivered =
          all_from_lookups (λ c. Delivers combining c.0 bundles c.1) all rises (λ id inbox e. given id inbox (value_at id inboxes) refl (sym (at id) ∙ e));
      have =
          λ id h. sym (has_key id all)
          ∙ (ap is_some (at id ∙ ap (λ (b : Bool). option_or (value_at id inboxes) (cond b (Some []) None)) h) ∙ some (value_at id inboxes));
      others = λ _ id h. nothing id (value_at id inboxes) refl (sym (at id) ∙ not_key id all h);
    }
      where
        stated : (id : ℕ) (o : Option (List M)) → value_at id inboxes ≡ o → Delivers combining id bundles (elim o [ None ↦ [] | Some inbox ↦ inbox ])
        stated id o e = subst (λ (o : Option (List M)). Delivers combining id bundles (elim o [ None ↦ [] | Some inbox ↦ inbox ])) e (are.stated id)

        given : (id : ℕ) (inbox : List M) (o : Option (List M)) → value_at id inboxes ≡ o
            → option_or (value_at id inboxes) (cond (has_id ids id) (Some []) None) ≡ Some inbox → Delivers combining id bundles inbox
        given id inbox (Some i) e h =
            subst (Delivers combining id bundles)
            (same_Some i inbox (sym (ap (λ o. option_or o (cond (has_id ids id) (Some []) None)) e) ∙ h)) (stated id (Some i) e)
        given id inbox None e h = by (has_id ids id) (sym (ap (λ o. option_or o (cond (has_id ids id) (Some []) None)) e) ∙ h)
          where
            by : (b : Bool) → cond b (Some []) None ≡ Some inbox → Delivers combining id bundles inbox
            by true k = subst (Delivers combining id bundles) (same_Some [] inbox k) (stated id None e)
            by false k = absurd (none-some inbox k)

        some : (o : Option (List M)) → is_some (option_or o (Some [])) ≡ true
        some None = refl
        some (Some i) = refl

        nothing : (id : ℕ) (o : Option (List M)) → value_at id inboxes ≡ o
            → option_or (value_at id inboxes) (cond (has_id ids id) (Some []) None) ≡ None → Delivers combining id bundles []
        nothing id None e h = stated id None e
        nothing id (Some i) e h = absurd (none-some i (sym h ∙ ap (λ o. option_or o (cond (has_id ids id) (Some []) None)) e))
