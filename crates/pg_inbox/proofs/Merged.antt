-- Lists of envelopes by target, merged one target after another.
use Rattle.std.proofs.Common.{◌≡◌, ℕ, zero, suc, ◌+◌, ◌≤◌, ◌<◌, ◌==◌, ◌⊎◌, inl, inr, Bool, true, false, cond, List, [], ◌∷◌, ◌++◌, length, map, take, drop}
use Rattle.std.proofs.Common.{get_or, slice_set, Option, None, Some, is_some, ◌||◌, refl, sym, ap, ap₂, ◌∙◌, subst, arith, ltb, true≢false, eq-eqb, eqb-true, filter, flat_map}
use Rattle.std.specs.List.{AllByRecursion}
use Rattle.std.specs.List.Sorted.{IsNonDecreasingBy}
use Rattle.std.specs.Option.{option_map}
use Rattle.std.proofs.lemmas.Bool.{ltb-false, ltb-true}
use Rattle.std.proofs.lemmas.Bool.Decides.{nat_tests}
use Rattle.std.proofs.lemmas.Grind.{flat_map-append}
use Rattle.std.proofs.lemmas.List.{append-nil, length-append, length-map, take-append-drop}
use Rattle.std.proofs.lemmas.List.Sorted.{IsNonDecreasingBy-drop}
use Rattle.pg_map.specs.Entries.{HasRisingIds, value_at}
use Rattle.pg_map.proofs.Parts.{Below, find-left, find-right, none_below, none_rise, rises_push}
use Rattle.pg_map.proofs.Rising.{at_other, at_same}
use Rattle.pg_model.proofs.LawsByNumber.{up_from}
use Rattle.pg_model.proofs.LawsLists.{all-append, all_weaker}
use Rattle.pg_model.specs.Job.{Combining}
use Rattle.pg_model.specs.Superstep.{is_empty}
use Rattle.pg_inbox_messages.proofs.Grouping.{after_run, all_higher, any_of_some, others_after_run, run_is, run_later, some_not_empty}
use Rattle.pg_inbox_messages.specs.Contents.{contents_of, messages}
use Rattle.pg_inbox_messages.specs.Grouping.{any_of, items_to, run_len}
use Rattle.pg_inbox_bundles.specs.Bundles.{MessageLists, envelopes_at, envelopes_in}
use Rattle.pg_inbox.specs.Inboxes.{AreInboxes, Delivers, inbox_at, is_receiver}
use Rattle.pg_inbox.specs.Merged.{AreMerged, IsLowest, IsLowestOf, StandByTarget, StandFrom, all_to, inbox_by_sender, lists_after}
use Rattle.pg_inbox_bundles.specs.Ordered.{in_order}
use Rattle.pg_inbox_bundles.specs.Sound.{sent_message_lists}
use Rattle.pg_inbox.proofs.Delivery.{delivers_in_order}
use Rattle.pg_inbox_bundles.proofs.Senders.{from, in_order-from, in_order-up}
use Rattle.pg_inbox_bundles.proofs.Sent.{value_at_sent}

not_same : (a b : ℕ) → (a ≡ b → ⊥) → (a == b) ≡ false
not_same a b h = grind (arith, nat_tests)

same_or_not : (a b : ℕ) → (a ≡ b) ⊎ (a ≡ b → ⊥)
same_or_not a b = by (a == b) refl
  where
    by : (t : Bool) → (a == b) ≡ t → (a ≡ b) ⊎ (a ≡ b → ⊥)
    by true e = inl (eqb-true a b e)
    by false e = inr (λ same. true≢false (sym (eq-eqb a b same) ∙ e))

module _ {X : Type 0} where
  pub all_at : (P : X → Type 0) (xs : List X) (i : ℕ) (x : X) → i < length xs → x ≡ get_or xs i x → AllByRecursion P xs → P x
  all_at P [] i x within is all = absurd (omega (arith, within))
  all_at P (y ∷ xs) zero x within is all = subst P (sym is) all.0
  all_at P (y ∷ xs) (suc i) x within is all = all_at P xs i x (omega (arith, within)) is all.1

  -- ---- each list in its turn

  -- one more of a list of which each element is replaced in its turn
  next_set : (f : X → X) (xs now : List X) (i : ℕ) (x : X) → now ≡ map f (take i xs) ++ drop i xs → i < length xs → x ≡ get_or now i x
      → slice_set now i (f x) ≡ map f (take (suc i) xs) ++ drop (suc i) xs
  next_set f [] now i x is within read = absurd (omega (arith, within))
  next_set f (z ∷ zs) now zero x is within read =
      ap (λ l. slice_set l 0 (f x)) is ∙ ap (λ y. f y ∷ zs) (read ∙ ap (λ l. get_or l 0 x) is)
  next_set f (z ∷ zs) now (suc i) x is within read =
      ap (λ l. slice_set l (suc i) (f x)) is
      ∙ ap (λ l. f z ∷ l)
      (next_set f zs (map f (take i zs) ++ drop i zs) i x refl (omega (arith, within)) (read ∙ ap (λ l. get_or l (suc i) x) is))

  pub set_next : (f : X → X) (xs now : List X) (i : ℕ) (x : X) → now ≡ map f (take i xs) ++ drop i xs → i < length xs → x ≡ get_or now i x
      → slice_set now i (f x) ≡ map f (take (i + 1) xs) ++ drop (i + 1) xs
  set_next f xs now i x is within read =
      let more : suc i ≡ i + 1 = omega arith in
      next_set f xs now i x is within read ∙ ap (λ n. map f (take n xs) ++ drop n xs) more

  -- what stands there was in the list
  pub next_is : (f : X → X) (xs now : List X) (i : ℕ) (x : X) → now ≡ map f (take i xs) ++ drop i xs → i < length xs → x ≡ get_or now i x
      → x ≡ get_or xs i x
  next_is f [] now i x is within read = absurd (omega (arith, within))
  next_is f (z ∷ zs) now zero x is within read = read ∙ ap (λ l. get_or l 0 x) is
  next_is f (z ∷ zs) now (suc i) x is within read =
      next_is f zs (map f (take i zs) ++ drop i zs) i x refl (omega (arith, within)) (read ∙ ap (λ l. get_or l (suc i) x) is)

  pub length_now : (f : X → X) (xs now : List X) (i : ℕ) → now ≡ map f (take i xs) ++ drop i xs → length now ≡ length xs
  length_now f xs now i is =
      ap length is ∙ (length-append (map f (take i xs)) (drop i xs)
      ∙ (ap (λ n. n + length (drop i xs)) (length-map (take i xs) f)
      ∙ (sym (length-append (take i xs) (drop i xs)) ∙ ap length (take-append-drop i xs))))

module _ {X : Type 0} where
  -- ---- what lists have for a target

  none_to : (target : ℕ) (lists : List (List (ℕ × X))) → StandFrom (target + 1) lists → all_to target lists ≡ []
  none_to target [] stand = refl
  none_to target (l ∷ lists) stand =
      ap₂ ◌++◌ (ap (map (λ i. i.1)) (run_later target l stand.0.1)) (none_to target lists stand.1)

  none_of_empty : (target : ℕ) (lists : List (List (ℕ × X))) → AllByRecursion (λ l. l ≡ []) lists → all_to target lists ≡ []
  none_of_empty target [] none = refl
  none_of_empty target (l ∷ lists) none = ap₂ ◌++◌ (ap (items_to target) none.0) (none_of_empty target lists none.1)

  from_weaker : (a b : ℕ) (lists : List (List (ℕ × X))) → a ≤ b → StandFrom b lists → StandFrom a lists
  from_weaker a b lists below stand =
      all_weaker _ _ (λ l h. (h.0, all_weaker (λ i. b ≤ i.0) (λ i. a ≤ i.0) (λ i k. omega (arith, k, below)) l h.1)) lists stand

  -- a target that they have isn't below the lowest
  low : (bound target : ℕ) (lists : List (List (ℕ × X))) → StandFrom bound lists → is_empty (all_to target lists) ≡ false → bound ≤ target
  low bound target lists stand some = by (ltb target bound) refl
    where
      by : (t : Bool) → ltb target bound ≡ t → bound ≤ target
      by false e = ltb-false target bound e
      by true e =
          let higher : target + 1 ≤ bound = omega (arith, ltb-true target bound e) in
          absurd (true≢false (sym (ap is_empty (none_to target lists (from_weaker (target + 1) bound lists higher stand))) ∙ some))

  all_to-more : (target : ℕ) (lists : List (List (ℕ × X))) (l : List (ℕ × X)) → all_to target (lists ++ l ∷ []) ≡ all_to target lists ++ items_to target l
  all_to-more target lists l =
      flat_map-append (items_to target) lists (l ∷ []) ∙ ap (λ x. all_to target lists ++ x) (append-nil (items_to target l))

  left_some : (a b : List X) → is_empty a ≡ false → is_empty (a ++ b) ≡ false
  left_some [] b h = absurd (true≢false h)
  left_some (x ∷ a) b h = some_not_empty x (a ++ b)

  right_some : (a b : List X) → is_empty b ≡ false → is_empty (a ++ b) ≡ false
  right_some [] b h = h
  right_some (x ∷ a) b h = some_not_empty x (a ++ b)

  -- ---- the lowest

  nothing_rises : IsNonDecreasingBy (λ (i : ℕ × X). i.0) []
  nothing_rises i j d le lt = absurd (omega (arith, lt))

  abbrev pub IsFrom : ℕ → List (ℕ × X) → Type 0
  IsFrom lowest l = IsNonDecreasingBy (λ i. i.0) l × AllByRecursion (λ i. lowest ≤ i.0) l

  from_empty : (bound : ℕ) (lists : List (List (ℕ × X))) → AllByRecursion (λ l. l ≡ []) lists → StandFrom bound lists
  from_empty bound lists none = all_weaker (λ l. l ≡ []) (IsFrom bound) (λ l h. subst (IsFrom bound) (sym h) (nothing_rises, tt)) lists none

  -- of one more list that is empty
  pub lowest_with_empty : (lists : List (List (ℕ × X))) (l : List (ℕ × X)) (lowest : Option ℕ) → l ≡ [] → IsLowestOf lists lowest
      → IsLowestOf (lists ++ l ∷ []) lowest
  lowest_with_empty lists l None none h = all-append (λ l. l ≡ []) lists (l ∷ []) h (none, tt)
  lowest_with_empty lists l (Some target) none h = record {
    from = all-append (IsFrom target) lists (l ∷ []) h.from (subst (IsFrom target) (sym none) (nothing_rises, tt), tt);
    some = ap is_empty (all_to-more target lists l) ∙ left_some (all_to target lists) (items_to target l) h.some;
  }

  module _ (lists : List (List (ℕ × X))) (l : List (ℕ × X)) (first : ℕ × X) (rest : List (ℕ × X)) (is : l ≡ first ∷ rest)
      (rise : IsNonDecreasingBy (λ i. i.0) l) where
    from_first : AllByRecursion (λ i. first.0 ≤ i.0) l
    from_first =
        subst (AllByRecursion (λ i. first.0 ≤ i.0)) (sym is)
        (omega arith, (up_from (λ i. i.0) (first ∷ rest) (subst (IsNonDecreasingBy (λ i. i.0)) is rise)).0)

    some_first : is_empty (items_to first.0 l) ≡ false
    some_first =
        ap (λ l. is_empty (items_to first.0 l)) is
        ∙ (ap (λ b. is_empty (map (λ i. i.1) (cond b (first ∷ filter (λ i. i.0 == first.0) rest) (filter (λ i. i.0 == first.0) rest))))
        (eq-eqb first.0 first.0 refl) ∙ some_not_empty first.1 (items_to first.0 rest))

    -- of one more list that begins with a higher target
    pub lowest_stays : (target : ℕ) → target < first.0 → IsLowest lists target → IsLowest (lists ++ l ∷ []) target
    lowest_stays target below h = record {
      from = all-append (IsFrom target) lists (l ∷ []) h.from
          ((rise, all_higher target first.0 l (omega (arith, below)) from_first), tt);
      some = ap is_empty (all_to-more target lists l) ∙ left_some (all_to target lists) (items_to target l) h.some;
    }

    -- or with one that isn't higher
    pub lowest_is_first : StandFrom first.0 lists → IsLowest (lists ++ l ∷ []) first.0
    lowest_is_first stand = record {
      from = all-append (IsFrom first.0) lists (l ∷ []) stand ((rise, from_first), tt);
      some = ap is_empty (all_to-more first.0 lists l) ∙ right_some (all_to first.0 lists) (items_to first.0 l) some_first;
    }

    pub lowest_among : (target : ℕ) → first.0 ≤ target → IsLowest lists target → IsLowest (lists ++ l ∷ []) first.0
    lowest_among target le h = lowest_is_first (from_weaker first.0 target lists le h.from)

    pub lowest_only : AllByRecursion (λ l. l ≡ []) lists → IsLowest (lists ++ l ∷ []) first.0
    lowest_only none = lowest_is_first (from_empty first.0 lists none)

  -- ---- the items to the lowest

  pub here_is : (target : ℕ) (l : List (ℕ × X)) → IsFrom target l → map (λ i. i.1) (take (run_len target l) l) ≡ items_to target l
  here_is target l stand = ap (map (λ i. i.1)) (run_is target l stand.1 (up_from (λ i. i.0) l stand.0))

  after_from : (target : ℕ) (lists : List (List (ℕ × X))) → StandFrom target lists → StandFrom (target + 1) (lists_after target lists)
  after_from target [] stand = tt
  after_from target (l ∷ lists) stand = (
    (IsNonDecreasingBy-drop (λ i. i.0) (run_len target l) l stand.0.0, after_run target l stand.0.1 (up_from (λ i. i.0) l stand.0.0)),
    after_from target lists stand.1,
  )

  others_after : (target other : ℕ) → (target == other) ≡ false → (lists : List (List (ℕ × X)))
      → all_to other (lists_after target lists) ≡ all_to other lists
  others_after target other apart [] = refl
  others_after target other apart (l ∷ lists) =
      ap₂ ◌++◌ (ap (map (λ i. i.1)) (others_after_run target other apart l)) (others_after target other apart lists)

  -- ---- how many items there are

  abbrev pub items_in_all : List (List (ℕ × X)) → ℕ
  items_in_all lists = length (flat_map (λ l. l) lists)

  counted : (target : ℕ) (lists : List (List (ℕ × X))) → StandFrom target lists
      → items_in_all (lists_after target lists) + length (all_to target lists) ≡ items_in_all lists
  counted target [] stand = refl
  counted target (l ∷ lists) stand =
      let here = here_is target l stand.0 in
      let later = drop (run_len target l) l in
      let whole : length (take (run_len target l) l) + length later ≡ length l =
      sym (length-append (take (run_len target l) l) later) ∙ ap length (take-append-drop (run_len target l) l) in
      let front : length (items_to target l) ≡ length (take (run_len target l) l) =
      ap length (sym here) ∙ length-map (take (run_len target l) l) (λ i. i.1) in
      omega (
        arith,
        counted target lists stand.1,
        whole,
        front,
        length-append later (flat_map (λ l. l) (lists_after target lists)),
        length-append (items_to target l) (all_to target lists),
        length-append l (flat_map (λ l. l) lists),
      )

  some_length : (l : List X) → is_empty l ≡ false → 0 < length l
  some_length [] h = absurd (true≢false h)
  some_length (x ∷ l) h = omega arith

  pub fewer : (target : ℕ) (lists : List (List (ℕ × X))) → IsLowest lists target → items_in_all (lists_after target lists) < items_in_all lists
  fewer target lists h = omega (arith, counted target lists h.from, some_length (all_to target lists) h.some)

-- ---- the inboxes of the targets so far

module _ {M : Type 0} (lists : List (List (ℕ × (ℕ × M)))) where
  abbrev IsMade : List (List (ℕ × (ℕ × M))) → List (ℕ × List M) → ℕ → Type 0
  IsMade remaining inboxes id = (all_to id remaining ≡ []) × (value_at id inboxes ≡ inbox_by_sender (all_to id lists))

  abbrev IsToCome : List (List (ℕ × (ℕ × M))) → List (ℕ × List M) → ℕ → Type 0
  IsToCome remaining inboxes id = (all_to id remaining ≡ all_to id lists) × (value_at id inboxes ≡ None)

  -- the targets below a bound have their inboxes, and all envelopes to the others are left
  pub record AreMergedSoFar (remaining : List (List (ℕ × (ℕ × M)))) (inboxes : List (ℕ × List M)) : Type 0 where
    pub bound : ℕ
    pub below : Below bound inboxes
    pub from : StandFrom bound remaining
    pub rise : HasRisingIds inboxes
    pub each : (id : ℕ) → IsMade remaining inboxes id ⊎ IsToCome remaining inboxes id

  pub merged_none : StandByTarget lists → AreMergedSoFar lists []
  merged_none stand = record {
    bound = 0;
    below = tt;
    from = all_weaker (IsNonDecreasingBy (λ i. i.0)) (IsFrom 0) (λ l h. (h, all_from_zero l)) lists stand;
    rise = none_rise {X = List M} [] refl;
    each = λ id. inr (refl, refl);
  }
    where
      all_from_zero : (l : List (ℕ × (ℕ × M))) → AllByRecursion (λ i. 0 ≤ i.0) l
      all_from_zero [] = tt
      all_from_zero (i ∷ l) = (omega arith, all_from_zero l)

  pub merged_more : (remaining : List (List (ℕ × (ℕ × M)))) (inboxes : List (ℕ × List M)) (target : ℕ) → AreMergedSoFar remaining inboxes
      → IsLowest remaining target → AreMergedSoFar (lists_after target remaining) (inboxes ++ (target, messages (in_order (all_to target remaining))) ∷ [])
  merged_more remaining inboxes target so_far lowest = record {
    bound = target + 1;
    below = all-append (λ e. e.0 < target + 1) inboxes ((target, made) ∷ [])
        (all_weaker (λ e. e.0 < so_far.bound) (λ e. e.0 < target + 1) (λ e h. omega (arith, h, not_below)) inboxes so_far.below) (omega arith, tt);
    from = after_from target remaining lowest.from;
    rise = rises_push inboxes target made so_far.rise below;
    each = λ id. by id (same_or_not target id);
  }
    where
      made : List M
      made = messages (in_order (all_to target remaining))

      not_below : so_far.bound ≤ target
      not_below = low so_far.bound target remaining so_far.from lowest.some

      below : Below target inboxes
      below = all_weaker (λ e. e.0 < so_far.bound) (λ e. e.0 < target) (λ e h. omega (arith, h, not_below)) inboxes so_far.below

      after : List (List (ℕ × (ℕ × M)))
      after = lists_after target remaining

      more : List (ℕ × List M)
      more = inboxes ++ (target, made) ∷ []

      here : value_at target more ≡ Some made
      here =
          find-right target inboxes ((target, made) ∷ []) (none_below target target inboxes (omega arith) below)
          ∙ ap (λ t. cond t (Some made) None) (at_same target)

      made_of : IsMade remaining inboxes target ⊎ IsToCome remaining inboxes target → all_to target remaining ≡ all_to target lists
      made_of (inl h) = absurd (true≢false (sym (ap is_empty h.0) ∙ lowest.some))
      made_of (inr h) = h.0

      other : (id : ℕ) → (target ≡ id → ⊥) → value_at id more ≡ value_at id inboxes
      other id apart =
          find-left id inboxes ((target, made) ∷ []) (ap (λ t. cond t (Some made) None) (at_other id target (λ same. apart (sym same))))

      still : (id : ℕ) → (target ≡ id → ⊥) → IsMade remaining inboxes id ⊎ IsToCome remaining inboxes id → IsMade after more id ⊎ IsToCome after more id
      still id apart (inl h) = inl (others_after target id (not_same target id apart) remaining ∙ h.0, other id apart ∙ h.1)
      still id apart (inr h) = inr (others_after target id (not_same target id apart) remaining ∙ h.0, other id apart ∙ h.1)

      by : (id : ℕ) → (target ≡ id) ⊎ (target ≡ id → ⊥) → IsMade after more id ⊎ IsToCome after more id
      by id (inl same) =
          subst (λ id. IsMade after more id ⊎ IsToCome after more id) same
          (inl (
            none_to target after (after_from target remaining lowest.from),
            here ∙ sym (ap (option_map (λ l. messages (in_order l))) (any_of_some (all_to target remaining) lowest.some))
                ∙ ap inbox_by_sender (made_of (so_far.each target)),
          ))
      by id (inr apart) = still id apart (so_far.each id)

  pub merged_all : (remaining : List (List (ℕ × (ℕ × M)))) (inboxes : List (ℕ × List M)) → AreMergedSoFar remaining inboxes
      → AllByRecursion (λ l. l ≡ []) remaining → AreMerged lists inboxes
  merged_all remaining inboxes so_far none = record { rise = so_far.rise; each = λ id. by id (so_far.each id) }
    where
      by : (id : ℕ) → IsMade remaining inboxes id ⊎ IsToCome remaining inboxes id → value_at id inboxes ≡ inbox_by_sender (all_to id lists)
      by id (inl h) = h.1
      by id (inr h) = h.1 ∙ ap inbox_by_sender (sym (none_of_empty id remaining none) ∙ h.0)

  -- ---- of bundles in which nothing is changed

  module _ (bundles : List (MessageLists M)) (are : bundles ≡ map sent_message_lists lists) (stand : StandByTarget lists) (inboxes : List (ℕ × List M))
      (merged : AreMerged lists inboxes) where
    envelopes_at_all : (id : ℕ) (lists : List (List (ℕ × (ℕ × M)))) → StandByTarget lists
        → flat_map (envelopes_at id) (map sent_message_lists lists) ≡ all_to id lists
    envelopes_at_all id [] stand = refl
    envelopes_at_all id (l ∷ lists) stand =
        ap₂ ◌++◌ (ap envelopes_in (value_at_sent id l stand.0) ∙ any_envelopes (items_to id l)) (envelopes_at_all id lists stand.1)
      where
        any_envelopes : (l : List (ℕ × M)) → envelopes_in (option_map (contents_of None) (any_of l)) ≡ l
        any_envelopes [] = refl
        any_envelopes (x ∷ l) = refl

    receivers_of_all : (id : ℕ) (lists : List (List (ℕ × (ℕ × M)))) → StandByTarget lists
        → is_some (inbox_by_sender (all_to id lists)) ≡ is_receiver (map sent_message_lists lists) id
    receivers_of_all id [] stand = refl
    receivers_of_all id (l ∷ lists) stand =
        by (items_to id l) (receivers_of_all id lists stand.1)
        ∙ ap (λ o. is_some o || is_receiver (map sent_message_lists lists) id) (sym (value_at_sent id l stand.0))
      where
        by : (x : List (ℕ × M)) → is_some (inbox_by_sender (all_to id lists)) ≡ is_receiver (map sent_message_lists lists) id
            → is_some (inbox_by_sender (x ++ all_to id lists))
            ≡ (is_some (option_map (contents_of None) (any_of x)) || is_receiver (map sent_message_lists lists) id)
        by [] h = h
        by (y ∷ x) h = refl

    inbox_of : (id : ℕ) (o : Option (List M)) → value_at id inboxes ≡ o → inbox_at id inboxes ≡ elim o [ None ↦ [] | Some inbox ↦ inbox ]
    inbox_of id o is = ap (λ (o : Option (List M)). elim o [ None ↦ [] | Some inbox ↦ inbox ]) is

    opened_by_sender : (l : List (ℕ × M)) → elim (inbox_by_sender l) [ None ↦ [] | Some inbox ↦ inbox ] ≡ messages (in_order l)
    opened_by_sender [] = refl
    opened_by_sender (x ∷ l) = refl

    pub merged_inboxes : (combining : Option (Combining M)) → is_some combining ≡ false → AreInboxes combining bundles inboxes
    merged_inboxes (Some c) none = absurd (true≢false none)
    merged_inboxes None none = record {
      rise = merged.rise;
      receivers = λ id. ap is_some (merged.each id) ∙ receivers_of_all id lists stand ∙ ap (λ b. is_receiver b id) (sym are);
      stated = λ id.
          let envelopes = all_to id lists in
          subst (Delivers None id bundles) (sym (inbox_of id (inbox_by_sender envelopes) (merged.each id) ∙ opened_by_sender envelopes))
          (delivers_in_order id bundles (in_order envelopes) (in_order-up envelopes)
          (λ q. in_order-from q envelopes ∙ ap (from q) (sym (envelopes_at_all id lists stand) ∙ ap (flat_map (envelopes_at id)) (sym are))));
    }
