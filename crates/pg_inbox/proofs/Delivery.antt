-- The bundles of lists of sends come to what the superstep delivers of all of them.
use Rattle.std.proofs.Common.{◌≡◌, ℕ, ◌==◌, Bool, true, false, cond, List, [], ◌∷◌, ◌++◌, map, Option, None, Some, refl, sym, ap, ap₂, ◌∙◌, subst, ◌||◌, All}
use Rattle.std.proofs.Common.{IsPermutation, filter, flat_map, fold, is_some, length, arith, take, get_or, ◌+◌, ◌<◌}
use Rattle.std.specs.List.{AllByRecursion, list_any}
use Rattle.std.specs.Option.{option_to_list, option_map}
use Rattle.std.proofs.lemmas.List.{append-nil, map-append, take_more}
use Rattle.std.proofs.lemmas.List.Folds.{list_any-append}
use Rattle.std.proofs.lemmas.List.Elements.{All-from_recursion, filter-append}
use Rattle.std.proofs.lemmas.List.Sums.{fold-append}
use Rattle.std.proofs.lemmas.List.Sorted.{IsPermutation-map, length_permutation}
use Rattle.std.specs.BTreeMap.{is_at}
use Rattle.std.specs.Ordering.{nat_cmp}
use Rattle.std.proofs.lemmas.Grind.{flat_map-append}
use Rattle.pg_map.specs.Entries.{HasRisingIds, value_at}
use Rattle.pg_map.proofs.Parts.{rises_after}
use Rattle.pg_map.proofs.Rising.{none_past}
use Rattle.pg_model.proofs.LawsByNumber.{IsUp}
use Rattle.pg_model.proofs.LawsFolds.{fold-IsPermutation, fold_from}
use Rattle.pg_model.proofs.LawsLists.{all-append, all_from_map, all_to_map}
use Rattle.pg_model.specs.Folds.{IsCommutativeMonoid}
use Rattle.pg_model.specs.Job.{Combining}
use Rattle.pg_model.specs.Superstep.{combined, messages_to}
use Rattle.pg_global.specs.Combiner.{IsLawful}
use Rattle.pg_inbox_messages.specs.Contents.{contents_of, messages, Holds}
use Rattle.pg_inbox_messages.specs.Grouping.{AreGroups, any_of, items_to}
use Rattle.pg_inbox_messages.specs.declared.message_list.Contents.{Contents}
use Rattle.pg_inbox_bundles.specs.Bundles.{MessageLists, bundle_of, envelopes_at}
use Rattle.pg_inbox_bundles.specs.Holding.{HoldsAt}
use Rattle.pg_inbox_bundles.specs.Ordered.{in_order}
use Rattle.pg_inbox.specs.Inboxes.{AreInboxes, Delivers, contents_to, each_inbox, inboxes_of, is_receiver, received_of}
use Rattle.pg_inbox_bundles.specs.Outbox.{Outbox, envelopes_to, without_senders}
use Rattle.pg_inbox.proofs.Among.{or_false}
use Rattle.pg_inbox_bundles.proofs.Bundling.{at_id, rises-values, value_at-bundle_of, value_at-values}
use Rattle.pg_inbox_bundles.proofs.Senders.{from, in_order-from, in_order-up, permutation_by_number, same_by_number}
use Rattle.pg_inbox_bundles.proofs.ToTarget.{envelopes_at-bundle_of, flat_map-of_map, same_envelopes, up_envelopes}

module _ {X Y : Type 0} where
  same_flat_map : (f g : X → List Y) → ((x : X) → f x ≡ g x) → (xs : List X) → flat_map f xs ≡ flat_map g xs
  same_flat_map f g same [] = refl
  same_flat_map f g same (x ∷ xs) = ap (λ l. l ++ flat_map f xs) (same x) ∙ ap (λ l. g x ++ l) (same_flat_map f g same xs)

-- what the messages to a target in one bundle come to
abbrev pub folded_at : {M : Type 0} → ℕ → MessageLists M → List M
folded_at id message_lists = elim (value_at id message_lists) [ None ↦ [] | Some contents ↦ option_to_list contents.folded ]

-- ---- the messages to one target

module _ {M : Type 0} (id : ℕ) where
  messages-envelopes : (sent : Outbox M) → messages (envelopes_to id sent) ≡ messages_to id (without_senders sent)
  messages-envelopes [] = refl
  messages-envelopes (s ∷ sent) = by (s.1 == id) (messages-envelopes sent)
    where
      by : (b : Bool) → messages (envelopes_to id sent) ≡ messages_to id (without_senders sent)
          → messages (map (λ s. (s.0, s.2)) (cond b (s ∷ filter (λ s. s.1 == id) sent) (filter (λ s. s.1 == id) sent))) ≡ map (λ m. m.1)
          (cond b ((s.1, s.2) ∷ filter (λ m. m.0 == id) (without_senders sent)) (filter (λ m. m.0 == id) (without_senders sent)))
      by true h = ap (λ l. s.2 ∷ l) h
      by false h = h

  envelopes_in_bundles : (combining : Option (Combining M)) (bundles : List (MessageLists M)) (lists : List (Outbox M))
      → bundles ≡ map (bundle_of combining) lists → flat_map (envelopes_at id) bundles ≡ flat_map (envelopes_to id) lists
  envelopes_in_bundles combining bundles lists are =
      ap (flat_map (envelopes_at id)) are ∙ (flat_map-of_map (envelopes_at id) (bundle_of combining) lists
      ∙ same_flat_map (λ l. envelopes_at id (bundle_of combining l)) (envelopes_to id) (envelopes_at-bundle_of id combining) lists)

  -- the messages of all bundles by sender, where they aren't combined
  pub delivers_in_order : (bundles : List (MessageLists M)) (sorted : List (ℕ × M)) → IsUp (λ x. x.0) sorted
      → ((q : ℕ) → from q sorted ≡ from q (flat_map (envelopes_at id) bundles)) → Delivers None id bundles (messages sorted)
  delivers_in_order bundles sorted up same lists all are of =
      let is : sorted ≡ envelopes_to id all =
      same_by_number sorted (envelopes_to id all) up (up_envelopes id all of.rise)
      (λ q. same q ∙ (ap (from q) (envelopes_in_bundles None bundles lists are) ∙ sym (same_envelopes id lists all of q))) in
      ap messages is ∙ messages-envelopes all

-- ---- where they are combined

module _ {M : Type 0} {is_value : M → Type 0} (c : Combining M) (law : IsCommutativeMonoid is_value c.combine c.initial) where
  abbrev IsValues : List (ℕ × M) → Type 0
  IsValues l = AllByRecursion (λ x. is_value x.1) l

  all_values : (l : List (ℕ × M)) → IsValues l → All is_value (messages l)
  all_values l h = All-from_recursion is_value (messages l) (all_to_map (λ x. x.1) is_value l h)

  one_fold : List (ℕ × M) → List M
  one_fold [] = []
  one_fold (x ∷ l) = fold c.combine c.initial (messages (x ∷ l)) ∷ []

  is_nil : List M → Bool
  is_nil [] = true
  is_nil (x ∷ l) = false

  combined_by : (xs ys : List M) → is_nil xs ≡ is_nil ys → fold c.combine c.initial xs ≡ fold c.combine c.initial ys
      → combined (Some c) xs ≡ combined (Some c) ys
  unfolding is_nil
  combined_by [] [] h e = refl
  combined_by [] (y ∷ ys) h e = absurd cc
  combined_by (x ∷ xs) [] h e = absurd cc
  combined_by (x ∷ xs) (y ∷ ys) h e = ap (λ m. m ∷ []) e

  fold_parts : (a : M) (parts : List (List (ℕ × M))) → is_value a → AllByRecursion IsValues parts
      → fold c.combine a (flat_map one_fold parts) ≡ fold c.combine a (messages (flat_map (λ l. l) parts))
  unfolding one_fold
  fold_parts a [] p h = refl
  fold_parts a ([] ∷ parts) p h = fold_parts a parts p h.1
  fold_parts a ((x ∷ l) ∷ parts) p h =
      let values = all_values (x ∷ l) h.0 in
      ap (λ b. fold c.combine b (flat_map one_fold parts)) (sym (fold_from law a (messages (x ∷ l)) p values))
      ∙ (fold_parts (fold c.combine a (messages (x ∷ l))) parts (stays a (x ∷ l) p h.0) h.1
      ∙ (sym (fold-append c.combine a (messages (x ∷ l)) (messages (flat_map (λ l. l) parts)))
      ∙ sym (ap (fold c.combine a) (map-append (λ (x : ℕ × M). x.1) (x ∷ l) (flat_map (λ l. l) parts)))))
    where
      stays : (a : M) (l : List (ℕ × M)) → is_value a → IsValues l → is_value (fold c.combine a (messages l))
      stays a [] p h = p
      stays a (x ∷ l) p h = stays (c.combine a x.1) l (law.stays a x.1 p h.0) h.1

  nil_parts : (parts : List (List (ℕ × M))) → is_nil (flat_map one_fold parts) ≡ is_nil (messages (flat_map (λ l. l) parts))
  unfolding one_fold is_nil
  nil_parts [] = refl
  nil_parts ([] ∷ parts) = nil_parts parts
  nil_parts ((x ∷ l) ∷ parts) = refl

  nil_permutation : (xs ys : List M) → IsPermutation xs ys → is_nil xs ≡ is_nil ys
  unfolding is_nil
  nil_permutation xs ys moved = by xs ys (length_permutation xs ys moved)
    where
      by : (xs ys : List M) → length ys ≡ length xs → is_nil xs ≡ is_nil ys
      by [] [] h = refl
      by [] (y ∷ ys) h = absurd (omega arith)
      by (x ∷ xs) [] h = absurd (omega arith)
      by (x ∷ xs) (y ∷ ys) h = refl

  any_folded : (l : List (ℕ × M))
      → elim (option_map (contents_of (Some c)) (any_of l)) [ None ↦ [] | Some contents ↦ option_to_list contents.folded ] ≡ one_fold l
  unfolding one_fold
  any_folded [] = refl
  any_folded (x ∷ l) = refl

  module _ (id : ℕ) where
    values_at : (o : Option (Contents M)) → HoldsAt is_value o → IsValues (elim o [ None ↦ [] | Some contents ↦ contents.envelopes ])
    values_at None h = tt
    values_at (Some contents) h = h.1

    all_parts : (lists : List (Outbox M)) → AllByRecursion (λ l. HoldsAt is_value (value_at id (bundle_of (Some c) l))) lists
        → AllByRecursion IsValues (map (envelopes_to id) lists)
    all_parts [] h = tt
    all_parts (l ∷ lists) h =
        (subst IsValues (envelopes_at-bundle_of id (Some c) l) (values_at (value_at id (bundle_of (Some c) l)) h.0), all_parts lists h.1)

    folded_in_bundles : (bundles : List (MessageLists M)) (lists : List (Outbox M)) → bundles ≡ map (bundle_of (Some c)) lists
        → flat_map (folded_at id) bundles ≡ flat_map one_fold (map (envelopes_to id) lists)
    folded_in_bundles bundles lists are =
        ap (flat_map (folded_at id)) are
        ∙ (flat_map-of_map (folded_at id) (bundle_of (Some c)) lists
        ∙ (same_flat_map (λ l. folded_at id (bundle_of (Some c) l)) (λ l. one_fold (envelopes_to id l)) (λ l.
        ap (λ (o : Option (Contents M)). elim o [ None ↦ [] | Some contents ↦ option_to_list contents.folded ])
        (value_at-bundle_of (Some c) id l) ∙ any_folded (envelopes_to id l)) lists
        ∙ sym (flat_map-of_map one_fold (envelopes_to id) lists)))

    delivers_some : (bundles : List (MessageLists M)) → AllByRecursion (λ b. HoldsAt is_value (value_at id b)) bundles
        → Delivers (Some c) id bundles (combined (Some c) (flat_map (folded_at id) bundles))
    delivers_some bundles hold lists all are of =
        let parts : List (List (ℕ × M)) = map (envelopes_to id) lists in
        let joined : flat_map (λ (l : List (ℕ × M)). l) parts ≡ flat_map (envelopes_to id) lists = flat_map-of_map (λ l. l) (envelopes_to id) lists in
        let values : AllByRecursion IsValues parts =
        all_parts lists (all_from_map (bundle_of (Some c)) (λ b. HoldsAt is_value (value_at id b)) lists
        (subst (AllByRecursion (λ b. HoldsAt is_value (value_at id b))) are hold)) in
        let moved : IsPermutation (messages (flat_map (envelopes_to id) lists)) (messages (envelopes_to id all)) =
        IsPermutation-map (λ x. x.1) (flat_map (envelopes_to id) lists) (envelopes_to id all)
        (permutation_by_number (flat_map (envelopes_to id) lists) (envelopes_to id all) (up_envelopes id all of.rise) (same_envelopes id lists all of)) in
        let each : All is_value (messages (flat_map (envelopes_to id) lists)) =
        subst (λ l. All is_value (messages l)) joined (all_values (flat_map (λ l. l) parts) (all_joined parts values)) in
        ap (combined (Some c)) (folded_in_bundles bundles lists are)
        ∙ (combined_by (flat_map one_fold parts) (messages (flat_map (λ l. l) parts)) (nil_parts parts) (fold_parts c.initial parts law.begins values)
        ∙ (ap (λ l. combined (Some c) (messages l)) joined
        ∙ (combined_by (messages (flat_map (envelopes_to id) lists)) (messages (envelopes_to id all)) (nil_permutation _ _ moved)
        (sym (fold-IsPermutation law c.initial _ _ law.begins each moved))
        ∙ ap (combined (Some c)) (messages-envelopes id all))))
      where
        all_joined : (parts : List (List (ℕ × M))) → AllByRecursion IsValues parts → IsValues (flat_map (λ l. l) parts)
        all_joined [] h = tt
        all_joined (l ∷ parts) h = all-append (λ x. is_value x.1) l (flat_map (λ l. l) parts) h.0 (all_joined parts h.1)

-- ---- the inbox of one target

module _ {M : Type 0} (id : ℕ) where
  pub envelopes_of_all : (bundles : List (MessageLists M)) → flat_map (λ c. c.envelopes) (contents_to id bundles) ≡ flat_map (envelopes_at id) bundles
  envelopes_of_all [] = refl
  envelopes_of_all (b ∷ bundles) =
      flat_map-append (λ (c : Contents M). c.envelopes) (option_to_list (value_at id b)) (contents_to id bundles)
      ∙ ap₂ ◌++◌ (by (value_at id b)) (envelopes_of_all bundles)
    where
      by : (o : Option (Contents M)) → flat_map (λ c. c.envelopes) (option_to_list o) ≡ elim o [ None ↦ [] | Some contents ↦ contents.envelopes ]
      by None = refl
      by (Some c) = append-nil c.envelopes

  pub folded_of_all : (bundles : List (MessageLists M)) → flat_map (λ c. option_to_list c.folded) (contents_to id bundles) ≡ flat_map (folded_at id) bundles
  folded_of_all [] = refl
  folded_of_all (b ∷ bundles) =
      flat_map-append (λ (c : Contents M). option_to_list c.folded) (option_to_list (value_at id b)) (contents_to id bundles)
      ∙ ap₂ ◌++◌ (by (value_at id b)) (folded_of_all bundles)
    where
      by : (o : Option (Contents M))
          → flat_map (λ c. option_to_list c.folded) (option_to_list o) ≡ elim o [ None ↦ [] | Some contents ↦ option_to_list contents.folded ]
      by None = refl
      by (Some c) = append-nil (option_to_list c.folded)

  -- an inbox made of what bundles have for a target is what they deliver
  pub delivers_received : (is_value : M → Type 0) (combining : Option (Combining M)) → IsLawful is_value combining → (bundles : List (MessageLists M))
      → AllByRecursion (λ b. HoldsAt is_value (value_at id b)) bundles → Delivers combining id bundles (received_of combining (contents_to id bundles))
  delivers_received is_value None law bundles hold =
      let envelopes : List (ℕ × M) = flat_map (λ c. c.envelopes) (contents_to id bundles) in
      delivers_in_order id bundles (in_order envelopes) (in_order-up envelopes) (λ q. in_order-from q envelopes ∙ ap (from q) (envelopes_of_all bundles))
  delivers_received is_value (Some c) law bundles hold =
      subst (λ l. Delivers (Some c) id bundles (combined (Some c) l)) (sym (folded_of_all bundles)) (delivers_some c law id bundles hold)

  nothing_at : (bundles : List (MessageLists M)) → is_receiver bundles id ≡ false → flat_map (envelopes_at id) bundles ≡ []
  nothing_at [] none = refl
  nothing_at (b ∷ bundles) none = by (value_at id b) none (nothing_at bundles)
    where
      by : (o : Option (Contents M)) → (is_some o || is_receiver bundles id) ≡ false
          → (is_receiver bundles id ≡ false → flat_map (envelopes_at id) bundles ≡ [])
          → elim o [ None ↦ [] | Some contents ↦ contents.envelopes ] ++ flat_map (envelopes_at id) bundles ≡ []
      by None h later = later h
      by (Some c) h later = absurd cc

  -- a target to which one of the first bundles or the next has a message
  pub is_receiver-more : (bundles : List (MessageLists M)) (i : ℕ) (b : MessageLists M) → i < length bundles → b ≡ get_or bundles i b
      → is_receiver (take (i + 1) bundles) id ≡ (is_receiver (take i bundles) id || is_some (value_at id b))
  is_receiver-more bundles i b within is =
      ap (λ l. is_receiver l id) (take_more bundles i b within ∙ ap (λ x. take i bundles ++ x ∷ []) (sym is))
      ∙ list_any-append (λ b. is_some (value_at id b)) (take i bundles) (b ∷ [])
      ∙ ap (λ c. is_receiver (take i bundles) id || c) (or_false (is_some (value_at id b)))

  -- where no bundle has a message to a target, nothing is delivered to it
  pub delivers_nothing : (bundles : List (MessageLists M)) → is_receiver bundles id ≡ false → (combining : Option (Combining M)) → Delivers combining id bundles []
  delivers_nothing bundles none combining lists all are of =
      let is : [] ≡ envelopes_to id all =
      same_by_number [] (envelopes_to id all) tt (up_envelopes id all of.rise)
      (λ q. ap (from q) (sym (nothing_at bundles none) ∙ envelopes_in_bundles id combining bundles lists are) ∙ sym (same_envelopes id lists all of q)) in
      sym (combined_nothing combining) ∙ ap (combined combining) (ap messages is ∙ messages-envelopes id all)
    where
      combined_nothing : (combining : Option (Combining M)) → combined combining [] ≡ []
      combined_nothing None = refl
      combined_nothing (Some c) = refl

  pub received_in_order : (combining : Option (Combining M)) → is_some combining ≡ false → (contents : List (Contents M))
      → received_of combining contents ≡ messages (in_order (flat_map (λ c. c.envelopes) contents))
  received_in_order None h contents = refl
  received_in_order (Some c) h contents = absurd cc

  pub received_nothing : (combining : Option (Combining M)) → received_of combining [] ≡ []
  received_nothing None = refl
  received_nothing (Some c) = refl

-- ---- those of all targets

module _ {X : Type 0} (id : ℕ) where
  items-append : (a b : List (ℕ × X)) → items_to id (a ++ b) ≡ items_to id a ++ items_to id b
  items-append a b =
      ap (map (λ (i : ℕ × X). i.1)) (filter-append (λ (i : ℕ × X). i.0 == id) a b)
      ∙ map-append (λ (i : ℕ × X). i.1) (filter (λ i. i.0 == id) a) (filter (λ i. i.0 == id) b)

  -- an id stands at most once among rising ids
  item_once : (es : List (ℕ × X)) → HasRisingIds es → items_to id es ≡ option_to_list (value_at id es)
  item_once [] rise = refl
  item_once (e ∷ es) rise =
      by (e.0 == id) refl (item_once es (rises_after e es rise)) ∙ ap (λ b. option_to_list (cond b (Some e.1) (value_at id es))) (sym (at_id id e.0))
    where
      by : (b : Bool) → (e.0 == id) ≡ b → items_to id es ≡ option_to_list (value_at id es)
          → map (λ i. i.1) (cond b (e ∷ filter (λ i. i.0 == id) es) (filter (λ i. i.0 == id) es)) ≡ option_to_list (cond b (Some e.1) (value_at id es))
      by true at h = ap (λ l. e.1 ∷ l) (h ∙ ap option_to_list (none_past id e es rise (at_id id e.0 ∙ at)))
      by false at h = h

  items_of_all : (lists : List (List (ℕ × X))) → AllByRecursion HasRisingIds lists
      → items_to id (flat_map (λ l. l) lists) ≡ flat_map (λ l. option_to_list (value_at id l)) lists
  items_of_all [] rise = refl
  items_of_all (l ∷ lists) rise = items-append l (flat_map (λ l. l) lists) ∙ ap₂ ◌++◌ (item_once l rise.0) (items_of_all lists rise.1)

  any_of_all : (lists : List (List (ℕ × X)))
      → is_some (any_of (flat_map (λ l. option_to_list (value_at id l)) lists)) ≡ list_any (λ l. is_some (value_at id l)) lists
  any_of_all [] = refl
  any_of_all (l ∷ lists) = by (value_at id l) (any_of_all lists)
    where
      rest : List X
      rest = flat_map (λ l. option_to_list (value_at id l)) lists

      by : (o : Option X) → is_some (any_of rest) ≡ list_any (λ l. is_some (value_at id l)) lists
          → is_some (any_of (option_to_list o ++ rest)) ≡ (is_some o || list_any (λ l. is_some (value_at id l)) lists)
      by None h = h
      by (Some x) h = refl

pub only_one : {X : Type 0} (xs : List X) (x : X) → length xs ≡ 1 → x ≡ get_or xs 0 x → xs ≡ x ∷ []
only_one [] x one is = absurd (omega arith)
only_one (y ∷ []) x one is = ap (λ z. z ∷ []) (sym is)
only_one (y ∷ z ∷ xs) x one is = absurd (omega arith)

-- rising entries are groups of one each
abbrev singles : {X : Type 0} → List (ℕ × X) → List (ℕ × List X)
singles es = map (λ e. (e.0, e.1 ∷ [])) es

single_groups : {X : Type 0} (es : List (ℕ × X)) → HasRisingIds es → AreGroups es (singles es)
single_groups {X} es rise = record {
  rise = rises-values (λ x. x ∷ []) es rise;
  stated = λ q. value_at-values (λ x. x ∷ []) q es ∙ (by (value_at q es) ∙ ap any_of (sym (item_once q es rise)));
}
  where
    by : (o : Option X) → option_map (λ x. x ∷ []) o ≡ any_of (option_to_list o)
    by None = refl
    by (Some x) = refl

abbrev opened : {M : Type 0} → Option (List M) → List M
opened o = elim o [ None ↦ [] | Some inbox ↦ inbox ]

module _ {M : Type 0} (is_value : M → Type 0) where
  hold_at : (id : ℕ) (b : MessageLists M) → AllByRecursion (λ e. Holds is_value e.1) b → HoldsAt is_value (value_at id b)
  hold_at id [] h = tt
  hold_at id (e ∷ b) h = by (is_at (nat_cmp id) e.0) (hold_at id b h.1)
    where
      by : (t : Bool) → HoldsAt is_value (value_at id b) → HoldsAt is_value (cond t (Some e.1) (value_at id b))
      by true later = h.0
      by false later = later

  hold_in_all : (id : ℕ) (bundles : List (MessageLists M)) → AllByRecursion (λ b. AllByRecursion (λ e. Holds is_value e.1) b) bundles
      → AllByRecursion (λ b. HoldsAt is_value (value_at id b)) bundles
  hold_in_all id [] h = tt
  hold_in_all id (b ∷ bundles) h = (hold_at id b h.0, hold_in_all id bundles h.1)

  module _ (combining : Option (Combining M)) (law : IsLawful is_value combining) (bundles : List (MessageLists M)) where
    -- the inboxes made of what all bundles have, by target
    pub are_inboxes : (groups : List (ℕ × List (Contents M))) → AreGroups (flat_map (λ b. b) bundles) groups
        → AllByRecursion HasRisingIds bundles → AllByRecursion (λ b. AllByRecursion (λ e. Holds is_value e.1) b) bundles
        → AreInboxes combining bundles (map (λ g. (g.0, received_of combining g.1)) groups)
    are_inboxes groups grouped rise hold = record {
      rise = rises-values (received_of combining) groups grouped.rise;
      receivers = λ id. ap is_some (here id) ∙ (is_some-map (any_of (contents_to id bundles)) ∙ any_of_all id bundles);
      stated = λ id. subst (Delivers combining id bundles) (sym (ap opened (here id) ∙ whole (contents_to id bundles)))
          (delivers_received id is_value combining law bundles (hold_in_all id bundles hold));
    }
      where
        here : (id : ℕ)
            → value_at id (map (λ g. (g.0, received_of combining g.1)) groups) ≡ option_map (received_of combining) (any_of (contents_to id bundles))
        here id =
            value_at-values (received_of combining) id groups
            ∙ ap (option_map (received_of combining)) (grouped.stated id ∙ ap any_of (items_of_all id bundles rise))

        is_some-map : (o : Option (List (Contents M))) → is_some (option_map (received_of combining) o) ≡ is_some o
        is_some-map None = refl
        is_some-map (Some l) = refl

        whole : (l : List (Contents M)) → opened (option_map (received_of combining) (any_of l)) ≡ received_of combining l
        whole [] = sym (received_nothing 0 combining)
        whole (c ∷ l) = refl

    -- those of one bundle, each of one message list
    pub inboxes_of_one : is_some combining ≡ false → (b : MessageLists M) → bundles ≡ b ∷ [] → HasRisingIds b → AllByRecursion (λ e. Holds is_value e.1) b
        → AreInboxes combining bundles (each_inbox b)
    inboxes_of_one none b one rise hold =
        let all : flat_map (λ b. b) bundles ≡ b = ap (flat_map (λ b. b)) one ∙ append-nil b in
        subst (AreInboxes combining bundles) (each b)
        (are_inboxes (singles b) (subst (λ l. AreGroups l (singles b)) (sym all) (single_groups b rise))
        (subst (AllByRecursion HasRisingIds) (sym one) (rise, tt)) (subst (AllByRecursion (λ b. AllByRecursion (λ e. Holds is_value e.1) b)) (sym one) (hold, tt)))
      where
        each : (es : MessageLists M) → inboxes_of combining (singles es) ≡ each_inbox es
        each [] = refl
        each (e ∷ es) =
            ap₂ ◌∷◌ (ap (λ l. (e.0, l)) (received_in_order 0 combining none (e.1 ∷ []) ∙ ap (λ l. messages (in_order l)) (append-nil e.1.envelopes))) (each es)
