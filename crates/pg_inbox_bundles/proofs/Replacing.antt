-- What a bundle becomes where messages are retracted and others are added, target by target.
use Rattle.std.proofs.Common.{◌≡◌, ℕ, zero, suc, ◌+◌, ◌<◌, arith, length, slice_get, ◌==◌, ◌||◌, ◌&&◌, not, Bool, true, false, cond, List, [], ◌∷◌, ◌++◌, map}
use Rattle.std.proofs.Common.{Option, Some, refl, sym, ap, ap₂, ◌∙◌, append_assoc, true≢false, subst, subst₂, filter, flat_map, eqb-true}
use Rattle.std.specs.List.{AllByRecursion}
use Rattle.std.proofs.lemmas.List.Elements.{All-from_recursion, recursion_from_All}
use Rattle.std.proofs.lemmas.List.Sorted.{All-permutation}
use Rattle.std.specs.List.Sorted.{IsPermutation, IsNonDecreasingBy, IsStableByKey, IsStrictlySortedBy}
use Rattle.std.specs.Map.{keys_of}
use Rattle.std.specs.Option.{option_map, unwrap_or}
use Rattle.std.specs.Ordering.{nat_cmp}
use Rattle.std.proofs.lemmas.List.{append-nil, length-append, length-map, map-append}
use Rattle.std.proofs.lemmas.Option.{slice_get-map}
use Rattle.std.proofs.lemmas.Simd.{map-map}
use Rattle.std.proofs.Math.Bool.{and-true, and-false}
use Rattle.pg_map.specs.Entries.{ChangesRise, HasRisingIds, value_at, with_changes}
use Rattle.pg_map.proofs.Changing.{rises-changes, unchanged_at, value_at-with_changes}
use Rattle.pg_model.proofs.LawsByNumber.{IsUp, up_from}
use Rattle.pg_model.proofs.LawsLists.{all_pass}
use Rattle.pg_model.specs.Job.{Combining}
use Rattle.pg_model.specs.Superstep.{has_id}
use Rattle.pg_inbox_messages.specs.Contents.{contents_of}
use Rattle.pg_inbox_messages.specs.Grouping.{AreGroups, any_of, items_to}
use Rattle.pg_inbox_messages.specs.declared.message_list.Contents.{Contents}
use Rattle.pg_inbox_messages.proofs.Grouping.{stays}
use Rattle.pg_inbox_bundles.specs.Bundles.{MessageLists, bundle_of, entries_in, envelopes_at}
use Rattle.pg_inbox_bundles.specs.Changed.{AreChanged, IsAdded}
use Rattle.pg_inbox_bundles.specs.MessageEdits.{inserted, as_addition, as_retraction, changes_of, edited, edited_at, message_edits_of, senders_of}
use Rattle.pg_inbox_bundles.specs.Ordered.{in_order}
use Rattle.pg_inbox_bundles.specs.Patched.{AreReplaced, IsPatched, is_retracted, staying}
use Rattle.pg_inbox_bundles.specs.Outbox.{Outbox, envelopes_to}
use Rattle.pg_inbox_bundles.specs.declared.patching.MessageEdit.{MessageEdit}
use Rattle.pg_inbox_bundles.proofs.Bundling.{all_from_lookups, at_id, is_bundle_of, rises-bundle_of, value_at-bundle_of}
use Rattle.pg_inbox_bundles.proofs.Differing.{AreFoundChanges, changed_all, rises-more, stated-more}
use Rattle.pg_inbox_bundles.proofs.ToTarget.{envelopes_at-bundle_of, same_envelopes, up_envelopes}
use Rattle.pg_inbox_bundles.proofs.Senders.{from, in_order-from, in_order-up, same_by_number, up_in_order}

-- ---- a stable sort by sender

module _ {X : Type 0} where
  pub sorted_in_order : (items sorted : List (ℕ × X)) → IsNonDecreasingBy (λ x. x.0) sorted → IsStableByKey (λ x. x.0) nat_cmp items sorted
      → sorted ≡ in_order items
  sorted_in_order items sorted rise stable =
      same_by_number sorted (in_order items) (up_from (λ x. x.0) sorted rise) (in_order-up items) (λ q. stays items sorted stable q
      ∙ sym (in_order-from q items))

-- what holds of each item holds of each of the sorted ones
pub values_sorted : {X : Type 0} (P : X → Type 0) (items sorted : List X) → IsPermutation items sorted → AllByRecursion P items → AllByRecursion P sorted
values_sorted P items sorted moved all = recursion_from_All P sorted (All-permutation P items sorted moved (All-from_recursion P items all))

-- ---- look-ups of entries that are made of ids and values

module _ {X Y : Type 0} (f : ℕ × X → Y) where
  pub value_at-made : (q : ℕ) (es : List (ℕ × X)) → value_at q (map (λ e. (e.0, f e)) es) ≡ option_map (λ x. f (q, x)) (value_at q es)
  value_at-made q [] = refl
  value_at-made q (e ∷ es) =
      ap (λ b. cond b (Some (f e)) (value_at q (map (λ e. (e.0, f e)) es))) (at_id q e.0)
      ∙ (by (e.0 == q) refl (value_at-made q es)
      ∙ ap (λ b. option_map (λ x. f (q, x)) (cond b (Some e.1) (value_at q es))) (sym (at_id q e.0)))
    where
      by : (b : Bool) → (e.0 == q) ≡ b → value_at q (map (λ e. (e.0, f e)) es) ≡ option_map (λ x. f (q, x)) (value_at q es)
          → cond b (Some (f e)) (value_at q (map (λ e. (e.0, f e)) es)) ≡ option_map (λ x. f (q, x)) (cond b (Some e.1) (value_at q es))
      by true e' h = ap (λ k. Some (f (k, e.1))) (eqb-true e.0 q e')
      by false e' h = h

-- ---- what is retracted, and then what is added

module _ {M : Type 0} (retracted : List (ℕ × ℕ)) (added : Outbox M) where
  pub targets-message_edits_of : map (λ m. m.0) (message_edits_of retracted added) ≡ map (λ w. w.1) retracted ++ map (λ s. s.1) added
  targets-message_edits_of =
      map-append (λ m. m.0) (map (as_retraction {M = M}) retracted) (map as_addition added)
      ∙ ap₂ ◌++◌ (map-map (λ m. m.0) (as_retraction {M = M}) retracted) (map-map (λ m. m.0) as_addition added)

  pub length-message_edits_of : length (message_edits_of retracted added) ≡ length retracted + length added
  length-message_edits_of =
      length-append (map (as_retraction {M = M}) retracted) (map as_addition added)
      ∙ ap₂ ◌+◌ (length-map retracted (as_retraction {M = M})) (length-map added as_addition)

module _ {X : Type 0} where
  slice_get-first : (xs ys : List X) (i : ℕ) → i < length xs → slice_get (xs ++ ys) i ≡ slice_get xs i
  slice_get-first [] ys i within = absurd (omega (arith, within))
  slice_get-first (x ∷ xs) ys zero within = refl
  slice_get-first (x ∷ xs) ys (suc i) within = slice_get-first xs ys i (omega (arith, within))

  slice_get-second : (xs ys : List X) (i j : ℕ) → j ≡ length xs + i → slice_get (xs ++ ys) j ≡ slice_get ys i
  slice_get-second [] ys i j at = let is : j ≡ i = omega (arith, at) in ap (slice_get ys) is
  slice_get-second (x ∷ xs) ys i zero at = absurd (omega (arith, at))
  slice_get-second (x ∷ xs) ys i (suc j) at = slice_get-second xs ys i j (omega (arith, at))

module _ {M : Type 0} (retracted : List (ℕ × ℕ)) (added : Outbox M) where
  -- what stands at a place, of the one or of the other
  pub retraction_at : (i : ℕ) (w : ℕ × ℕ) → i < length retracted → slice_get retracted i ≡ Some w
      → slice_get (message_edits_of retracted added) i ≡ Some (as_retraction w)
  retraction_at i w within at =
      slice_get-first (map (as_retraction {M = M}) retracted) (map as_addition added) i (omega (arith, within, length-map retracted (as_retraction {M = M})))
      ∙ slice_get-map (as_retraction {M = M}) retracted i ∙ ap (option_map (as_retraction {M = M})) at

  pub addition_at : (i j : ℕ) (s : ℕ × ℕ × M) → j ≡ length retracted + i → slice_get added i ≡ Some s
      → slice_get (message_edits_of retracted added) j ≡ Some (as_addition s)
  addition_at i j s is at =
      slice_get-second (map (as_retraction {M = M}) retracted) (map as_addition added) i j (omega (arith, is, length-map retracted (as_retraction {M = M})))
      ∙ slice_get-map as_addition added i ∙ ap (option_map as_addition) at

-- ---- what is done to one target

module _ {M : Type 0} (q : ℕ) where
  none_retracted : (added : Outbox M) → senders_of (items_to q (map as_addition added)) ≡ []
  none_retracted [] = refl
  none_retracted (s ∷ added) = by (s.1 == q) (none_retracted added)
    where
      by : (b : Bool) → senders_of (items_to q (map as_addition added)) ≡ []
          → senders_of
          (map (λ i. i.1) (cond b (as_addition s ∷ filter (λ i. i.0 == q) (map as_addition added)) (filter (λ i. i.0 == q) (map as_addition added)))) ≡ []
      by true h = h
      by false h = h

  -- just the senders whose messages to the target are retracted
  retracted_here : (retracted : List (ℕ × ℕ)) (added : Outbox M) (sender : ℕ)
      → has_id (senders_of (items_to q (message_edits_of retracted added))) sender ≡ is_retracted retracted sender q
  retracted_here [] added sender = ap (λ l. has_id l sender) (none_retracted added)
  retracted_here (w ∷ retracted) added sender = by (w.1 == q) (retracted_here retracted added sender)
    where
      message_edits : List (ℕ × MessageEdit M)
      message_edits = filter (λ i. i.0 == q) (message_edits_of retracted added)

      by : (b : Bool) → has_id (senders_of (items_to q (message_edits_of retracted added))) sender ≡ is_retracted retracted sender q
          → has_id (senders_of (map (λ i. i.1) (cond b (as_retraction w ∷ message_edits) message_edits))) sender ≡ (((w.0 == sender) && b) || is_retracted retracted sender q)
      by true h = ap₂ ◌||◌ (sym (and-true (w.0 == sender))) h
      by false h = h ∙ ap (λ b. b || is_retracted retracted sender q) (sym (and-false (w.0 == sender)))

  added_alone : (added : Outbox M) → inserted (items_to q (map as_addition added)) ≡ envelopes_to q added
  added_alone [] = refl
  added_alone (s ∷ added) = by (s.1 == q) (added_alone added)
    where
      by : (b : Bool) → inserted (items_to q (map as_addition added)) ≡ envelopes_to q added
          → inserted
          (map (λ i. i.1) (cond b (as_addition s ∷ filter (λ i. i.0 == q) (map as_addition added)) (filter (λ i. i.0 == q) (map as_addition added)))) ≡ map
          (λ s. (s.0, s.2)) (cond b (s ∷ filter (λ s. s.1 == q) added) (filter (λ s. s.1 == q) added))
      by true h = ap (λ l. (s.0, s.2) ∷ l) h
      by false h = h

  -- just the messages to the target that are added
  added_here : (retracted : List (ℕ × ℕ)) (added : Outbox M) → inserted (items_to q (message_edits_of retracted added)) ≡ envelopes_to q added
  added_here [] added = added_alone added
  added_here (w ∷ retracted) added = by (w.1 == q) (added_here retracted added)
    where
      message_edits : List (ℕ × MessageEdit M)
      message_edits = filter (λ i. i.0 == q) (message_edits_of retracted added)

      by : (b : Bool) → inserted (items_to q (message_edits_of retracted added)) ≡ envelopes_to q added
          → inserted (map (λ i. i.1) (cond b (as_retraction w ∷ message_edits) message_edits)) ≡ envelopes_to q added
      by true h = h
      by false h = h

  -- the messages to the target that stay
  envelopes-staying : (retracted : List (ℕ × ℕ)) (before : Outbox M)
      → envelopes_to q (staying retracted before) ≡ filter (λ l. not (is_retracted retracted l.0 q)) (envelopes_to q before)
  envelopes-staying retracted [] = refl
  envelopes-staying retracted (s ∷ before) = by (s.1 == q) refl (envelopes-staying retracted before)
    where
      gone : ℕ → Bool
      gone target = is_retracted retracted s.0 target

      stay : Outbox M
      stay = staying retracted before

      pairs : Outbox M → List (ℕ × M)
      pairs l = map (λ s. (s.0, s.2)) l

      mine : Outbox M → Outbox M
      mine l = filter (λ s. s.1 == q) l

      kept : List (ℕ × M) → List (ℕ × M)
      kept l = filter (λ l. not (is_retracted retracted l.0 q)) l

      front : ℕ × M
      front = (s.0, s.2)

      past : (b c : Bool) → (s.1 == q) ≡ b → b ≡ false → envelopes_to q stay ≡ kept (envelopes_to q before)
          → pairs (mine (cond c (s ∷ stay) stay)) ≡ kept (envelopes_to q before)
      past b true e f h = ap (λ t. pairs (cond t (s ∷ mine stay) (mine stay))) (e ∙ f) ∙ h
      past b false e f h = h

      here : (c : Bool) → (s.1 == q) ≡ true → envelopes_to q stay ≡ kept (envelopes_to q before)
          → pairs (mine (cond c (s ∷ stay) stay)) ≡ cond c (front ∷ kept (envelopes_to q before)) (kept (envelopes_to q before))
      here true e h = ap (λ t. pairs (cond t (s ∷ mine stay) (mine stay))) e ∙ ap (λ l. front ∷ l) h
      here false e h = h

      by : (b : Bool) → (s.1 == q) ≡ b → envelopes_to q stay ≡ kept (envelopes_to q before)
          → pairs (mine (cond (not (gone s.1)) (s ∷ stay) stay)) ≡ kept (pairs (cond b (s ∷ mine before) (mine before)))
      by true e h =
          ap (λ t. pairs (mine (cond (not (gone t)) (s ∷ stay) stay))) (eqb-true s.1 q e)
          ∙ here (not (gone q)) e h
      by false e h = past false (not (gone s.1)) e refl h

  module _ (retracted : List (ℕ × ℕ)) (added before after : Outbox M) (replaced : AreReplaced retracted added before after) where
    -- what becomes of the messages to the target is what goes to it after
    edited_here : edited (items_to q (message_edits_of retracted added)) (envelopes_to q before) ≡ envelopes_to q after
    edited_here =
        let message_edits : List (MessageEdit M) = items_to q (message_edits_of retracted added) in
        let all : List (ℕ × M) = filter (λ l. not (has_id (senders_of message_edits) l.0)) (envelopes_to q before) ++ inserted message_edits in
        let parts : all ≡ flat_map (envelopes_to q) (staying retracted before ∷ added ∷ []) =
        ap₂ ◌++◌ (ap (λ (p : ℕ × M → Bool). filter p (envelopes_to q before)) (λ i l. not (retracted_here retracted added l.0 i))
        ∙ sym (envelopes-staying retracted before))
        (added_here retracted added ∙ sym (append-nil (envelopes_to q added))) in
        same_by_number (in_order all) (envelopes_to q after) (in_order-up all) (up_envelopes q after replaced.rise)
        (λ s. in_order-from s all ∙ (ap (from s) parts ∙ sym (same_envelopes q (staying retracted before ∷ added ∷ []) after replaced s)))

-- messages in order stay so
edited_none : {M : Type 0} (envelopes : List (ℕ × M)) → IsUp (λ l. l.0) envelopes → edited [] envelopes ≡ envelopes
edited_none envelopes up =
    ap in_order (append-nil (filter (λ l. true) envelopes) ∙ all_pass (λ l. true) (λ l. refl) envelopes)
    ∙ up_in_order envelopes up

-- ---- the whole bundle

pub changes_rise : {M : Type 0} (combining : Option (Combining M)) (old : MessageLists M) (groups : List (ℕ × List (MessageEdit M))) → HasRisingIds groups
    → ChangesRise (changes_of combining old groups)
changes_rise combining old groups rise = subst (IsStrictlySortedBy nat_cmp) (sym (map-map (λ c. c.0) (λ g. (g.0, edited_at combining old g)) groups)) rise

module _ {M : Type 0} (combining : Option (Combining M)) (retracted : List (ℕ × ℕ)) (added : Outbox M) (old : MessageLists M)
    (groups : List (ℕ × List (MessageEdit M))) where
  module _ (grouped : AreGroups (message_edits_of retracted added) groups) where
    pub patched : (new : MessageLists M) → new ≡ with_changes (changes_of combining old groups) old → IsPatched combining retracted added old new
    patched new are before after rise replaced is =
        subst (λ b. b ≡ bundle_of combining after) (sym are)
        (is_bundle_of combining (with_changes (changes_of combining old groups) old) after (rises-changes (changes_of combining old groups) old rises)
        (λ q. value_at-with_changes (changes_of combining old groups) old q (changes_rise combining old groups grouped.rise) rises
        ∙ (ap (λ o. unwrap_or o (value_at q old)) (value_at-made (edited_at combining old) q groups
        ∙ ap (option_map (λ ms. edited_at combining old (q, ms))) (grouped.stated q))
        ∙ by q (items_to q (message_edits_of retracted added)) refl)))
      where
        rises : HasRisingIds old
        rises = subst HasRisingIds (sym is) (rises-bundle_of combining before)

        contents : List (ℕ × M) → Option (Contents M)
        contents l = option_map (contents_of combining) (any_of l)

        by : (q : ℕ) (message_edits : List (MessageEdit M)) → items_to q (message_edits_of retracted added) ≡ message_edits
            → unwrap_or (option_map (λ ms. edited_at combining old (q, ms)) (any_of message_edits)) (value_at q old) ≡ contents (envelopes_to q after)
        by q [] e =
            ap (value_at q) is
            ∙ (value_at-bundle_of combining q before
            ∙ ap contents (sym (edited_none (envelopes_to q before) (up_envelopes q before rise))
            ∙ (ap (λ ms. edited ms (envelopes_to q before)) (sym e) ∙ edited_here q retracted added before after replaced)))
        by q (m ∷ message_edits) e =
            ap (λ l. contents (edited (m ∷ message_edits) l)) (ap (envelopes_at q) is ∙ envelopes_at-bundle_of q combining before)
            ∙ ap contents (ap (λ ms. edited ms (envelopes_to q before)) (sym e) ∙ edited_here q retracted added before after replaced)

-- ---- where they differ

module _ {X : Type 0} where
  all-parts : (P : X → Type 0) (xs : List X) (y : X) → AllByRecursion P (xs ++ y ∷ []) → AllByRecursion P xs × P y
  all-parts P [] y h = (tt, h.0)
  all-parts P (x ∷ xs) y h = let later = all-parts P xs y h.1 in ((h.0, later.0), later.1)

module _ {M : Type 0} (old : MessageLists M) where
  -- just the targets at which whatever has these changes differs from the old bundle
  pub record AreFound (changes : List (ℕ × Option (Contents M))) (found : List ℕ) : Type 0 where
    pub rise : (rest : List ℕ) → IsStrictlySortedBy nat_cmp (keys_of changes ++ rest) → IsStrictlySortedBy nat_cmp (found ++ rest)
    pub stated : (new : MessageLists M) → AllByRecursion (λ c. value_at c.0 new ≡ c.1) changes → AreFoundChanges old new found (keys_of changes)

  pub found-none : AreFound [] []
  found-none = record {
    rise = λ rest h. h;
    stated = λ new h q. (λ here. absurd (true≢false (sym here)), λ other here. absurd (true≢false (sym here)));
  }

  pub found-more : {id' id : ℕ} {before after' after : Option (Contents M)} (changes changes' : List (ℕ × Option (Contents M))) (found found' : List ℕ)
      → AreFound changes found → changes' ≡ changes ++ (id, after) ∷ [] → before ≡ value_at id old → after' ≡ after
      → IsAdded id' before after' found found' → id' ≡ id → AreFound changes' found'
  found-more {id'} {id} {before} {after'} {after} changes changes' found found' so_far pushed at is added same = record {
    rise = λ rest h. rises-more (value_at id old) after found found' rest id
        (so_far.rise (id ∷ rest)
        (subst (IsStrictlySortedBy nat_cmp) (ap (λ l. l ++ rest) keys ∙ append_assoc (keys_of changes) (id ∷ []) rest) h)) here;
    stated = λ new h.
        let parts = all-parts (λ c. value_at c.0 new ≡ c.1) changes (id, after) (subst (AllByRecursion (λ c. value_at c.0 new ≡ c.1)) pushed h) in
        subst (AreFoundChanges old new found') (sym keys)
        (stated-more old new found found' (keys_of changes) id (so_far.stated new parts.0)
        (subst (λ a. IsAdded id (value_at id old) a found found') (sym parts.1) here));
  }
    where
      keys : keys_of changes' ≡ keys_of changes ++ id ∷ []
      keys = ap keys_of pushed ∙ map-append (λ c. c.0) changes ((id, after) ∷ [])

      here : IsAdded id (value_at id old) after found found'
      here = subst (λ i. IsAdded i (value_at id old) after found found') same (subst₂ (λ b a. IsAdded id' b a found found') at is added)

  pub found_all : (changes : List (ℕ × Option (Contents M))) (found : List ℕ) → HasRisingIds old → AreFound changes found → ChangesRise changes
      → AreChanged old (with_changes changes old) found
  found_all changes found rising are rise =
      let new = with_changes changes old in
      changed_all old new (keys_of changes) found (λ id h. ap (entries_in id) (sym (unchanged_at changes old id h)))
      (are.rise [] (subst (IsStrictlySortedBy nat_cmp) (sym (append-nil (keys_of changes))) rise))
      (are.stated new (all_from_lookups (λ c. value_at c.0 new ≡ c.1) changes rise
      (λ q x h. value_at-with_changes changes old q rise rising ∙ ap (λ o. unwrap_or o (value_at q old)) h)))
