-- Entries in parts, which are chunks or groups: where a search finds them, and which changes fall into which part.
use Rattle.std.proofs.Common.{◌≡◌, ℕ, zero, suc, ◌+◌, ◌<◌, ◌≤◌, List, [], ◌∷◌, ◌++◌, length, get_or, take, drop, true, false, Option, None, refl}
use Rattle.std.proofs.Common.{sum_by, length-append, sym, ap, ◌∙◌, subst, arith, leb, ltb}
use Rattle.std.specs.List.{flat_map}
use Rattle.std.specs.List.Sorted.{IsNonDecreasingBy, IsPartitionPoint, IsStrictlySortedBy}
use Rattle.std.proofs.lemmas.Bool.{ltb-true, ltb-false, leb-true, leb-false}
use Rattle.std.proofs.lemmas.List.{append-nil, append_assoc}
use Rattle.std.proofs.lemmas.Grind.{flat_map-append}
use Rattle.std.proofs.lemmas.List.Sums.{sum_by-cons}
use Rattle.pg_map.specs.Chunks.{AreCut, AreGroups, AreParts, AreSound, StartsAt, all_of, grouped}
use Rattle.pg_map.specs.Entries.{HasRisingIds, ChangesRise, entries_from, with_changes}
use Rattle.pg_map.specs.declared.part.Node.{Node}
use Rattle.pg_map.proofs.Rising.{find}
use Rattle.pg_map.proofs.Search.{rises}
use Rattle.pg_map.proofs.Parts.{Below, From, from_weaker, from_first, below_middle, rises_left, rises_right, none_below, none_from, find-left}
use Rattle.pg_map.proofs.Parts.{find-right, none_kept, all_kept, from-append, changes_in_parts, split_all}

module _ {X T : Type 0} (listed : Node T → List (ℕ × X)) where
  abbrev entries_of : List (Node T) → List (ℕ × X)
  entries_of parts = flat_map listed parts

  -- ---- one part and the others

  from_start : (m : ℕ) (a b : List (ℕ × X)) → StartsAt m a → HasRisingIds (a ++ b) → From m (a ++ b)
  from_start m [] b starts rising = absurd starts
  from_start m (e ∷ a) b starts rising = subst (λ k. From k (e ∷ a ++ b)) (sym starts) (from_first e (a ++ b) rising)

  below_start : (m : ℕ) (a b c : List (ℕ × X)) → StartsAt m b → HasRisingIds (a ++ (b ++ c)) → Below m a
  below_start m a [] c starts rising = absurd starts
  below_start m a (e ∷ b) c starts rising = subst (λ k. Below k a) (sym starts) (below_middle a e (b ++ c) rising)

  pub from_part : (c : Node T) (cs : List (Node T)) → AreParts listed (c ∷ cs) → HasRisingIds (entries_of (c ∷ cs)) → From c.first (entries_of (c ∷ cs))
  from_part c cs are rising = from_start c.first (listed c) (entries_of cs) are.0.0 rising

  pub below_part : (c d : Node T) (ds : List (Node T)) → AreParts listed (c ∷ d ∷ ds) → HasRisingIds (entries_of (c ∷ d ∷ ds)) → Below d.first (listed c)
  below_part c d ds are rising = below_start d.first (listed c) (listed d) (entries_of ds) are.1.0.0 rising

  -- ---- the parts' first ids rise

  start_within : (k m : ℕ) (a b : List (ℕ × X)) → StartsAt m a → From k (a ++ b) → k ≤ m
  start_within k m [] b starts from = absurd starts
  start_within k m (e ∷ a) b starts from = omega (arith, starts, from.0)

  from_rest : (k : ℕ) (a b : List (ℕ × X)) → From k (a ++ b) → From k b
  from_rest k [] b from = from
  from_rest k (e ∷ a) b from = from_rest k a b from.1

  first_within : (k : ℕ) (cs : List (Node T)) (j : ℕ) (d : Node T) → AreParts listed cs → From k (entries_of cs) → j < length cs → k ≤ (get_or cs j d).first
  first_within k [] j d are from within = absurd (omega arith)
  first_within k (c ∷ cs) zero d are from within = start_within k c.first (listed c) (entries_of cs) are.0.0 from
  first_within k (c ∷ cs) (suc j) d are from within = first_within k cs j d are.1 (from_rest k (listed c) (entries_of cs) from) (omega arith)

  pub firsts_rise : (cs : List (Node T)) → AreParts listed cs → HasRisingIds (entries_of cs) → IsNonDecreasingBy (λ c. c.first) cs
  firsts_rise [] are rising i j d h within = absurd (omega arith)
  firsts_rise (c ∷ cs) are rising zero j d h within = first_within c.first (c ∷ cs) j d are (from_part c cs are rising) within
  firsts_rise (c ∷ cs) are rising (suc i) zero d h within = absurd (omega arith)
  firsts_rise (c ∷ cs) are rising (suc i) (suc j) d h within =
      firsts_rise cs are.1 (rises_right (listed c) (entries_of cs) rising) i j d (omega arith) (omega arith)

  -- ---- look-ups

  pub rises_part : (cs : List (Node T)) (n : ℕ) (d : Node T) → HasRisingIds (entries_of cs) → n < length cs → HasRisingIds (listed (get_or cs n d))
  rises_part [] n d rising within = absurd (omega arith)
  rises_part (c ∷ cs) zero d rising within = rises_left (listed c) (entries_of cs) rising
  rises_part (c ∷ cs) (suc n) d rising within = rises_part cs n d (rises_right (listed c) (entries_of cs) rising) (omega arith)

  -- where all parts start above an id, nothing is there, and all entries are from it on
  module _ (q : ℕ) where
    pub above_all : (cs : List (Node T)) → AreParts listed cs → HasRisingIds (entries_of cs)
        → ((k : ℕ) (d : Node T) → k < length cs → q < (get_or cs k d).first) → From (q + 1) (entries_of cs)
    above_all [] are rising high = tt
    above_all (c ∷ cs) are rising high =
        from_weaker (q + 1) c.first (entries_of (c ∷ cs)) (let h = high 0 c (omega arith) in omega arith) (from_part c cs are rising)

    pub none_in : (cs : List (Node T)) → AreParts listed cs → HasRisingIds (entries_of cs)
        → ((k : ℕ) (d : Node T) → k < length cs → q < (get_or cs k d).first) → find q (entries_of cs) ≡ None
    none_in cs are rising high = none_from q (q + 1) (entries_of cs) (omega arith) (above_all cs are rising high)

    pub all_in : (cs : List (Node T)) → AreParts listed cs → HasRisingIds (entries_of cs)
        → ((k : ℕ) (d : Node T) → k < length cs → q < (get_or cs k d).first) → entries_from q (entries_of cs) ≡ entries_of cs
    all_in cs are rising high = all_kept q (q + 1) (entries_of cs) (omega arith) (above_all cs are rising high)

    -- what is at the id is in the last part that starts at or below it
    pub value_by_part : (cs : List (Node T)) (n : ℕ) (d : Node T) → AreParts listed cs → HasRisingIds (entries_of cs) → n < length cs
        → ((k : ℕ) (x : Node T) → k ≤ n → (get_or cs k x).first ≤ q) → ((k : ℕ) (x : Node T) → n < k → k < length cs → q < (get_or cs k x).first)
        → find q (entries_of cs) ≡ find q (listed (get_or cs n d))
    value_by_part [] n d are rising within low high = absurd (omega arith)
    value_by_part (c ∷ cs) zero d are rising within low high =
        find-left q (listed c) (entries_of cs)
        (none_in cs are.1 (rises_right (listed c) (entries_of cs) rising) (λ k x h. high (suc k) x (omega arith) (omega arith)))
    value_by_part (c ∷ []) (suc n) d are rising within low high = absurd (omega arith)
    value_by_part (c ∷ b ∷ cs) (suc n) d are rising within low high =
        find-right q (listed c) (entries_of (b ∷ cs)) (none_below q b.first (listed c) (low 1 b (omega arith)) (below_part c b cs are rising))
        ∙ value_by_part (b ∷ cs) n d are.1 (rises_right (listed c) (entries_of (b ∷ cs)) rising) (omega arith)
        (λ k x h. low (suc k) x (omega arith)) (λ k x h g. high (suc k) x (omega arith) (omega arith))

    pub from_by_part : (cs : List (Node T)) (n : ℕ) (d : Node T) → AreParts listed cs → HasRisingIds (entries_of cs) → n < length cs
        → ((k : ℕ) (x : Node T) → k ≤ n → (get_or cs k x).first ≤ q) → ((k : ℕ) (x : Node T) → n < k → k < length cs → q < (get_or cs k x).first)
        → entries_from q (entries_of cs) ≡ entries_from q (listed (get_or cs n d)) ++ entries_of (drop (n + 1) cs)
    from_by_part [] n d are rising within low high = absurd (omega arith)
    from_by_part (c ∷ cs) zero d are rising within low high =
        from-append q (listed c) (entries_of cs)
        ∙ ap (λ l. entries_from q (listed c) ++ l)
        (all_in cs are.1 (rises_right (listed c) (entries_of cs) rising) (λ k x h. high (suc k) x (omega arith) (omega arith)))
    from_by_part (c ∷ []) (suc n) d are rising within low high = absurd (omega arith)
    from_by_part (c ∷ b ∷ cs) (suc n) d are rising within low high =
        from-append q (listed c) (entries_of (b ∷ cs))
        ∙ ap (λ l. l ++ entries_from q (entries_of (b ∷ cs))) (none_kept q b.first (listed c) (low 1 b (omega arith)) (below_part c b cs are rising))
        ∙ from_by_part (b ∷ cs) n d are.1 (rises_right (listed c) (entries_of (b ∷ cs)) rising) (omega arith)
        (λ k x h. low (suc k) x (omega arith)) (λ k x h g. high (suc k) x (omega arith) (omega arith))
        ∙ (let further : suc (n + 1) ≡ suc n + 1 = omega arith in
        ap (λ k. entries_from q (listed (get_or (b ∷ cs) n d)) ++ entries_of (drop k (c ∷ b ∷ cs))) further)

    -- in one list of entries
    pub from_place : (es : List (ℕ × X)) (i : ℕ) → i ≤ length es
        → ((k : ℕ) (x : ℕ × X) → k < i → (get_or es k x).0 < q) → ((k : ℕ) (x : ℕ × X) → i ≤ k → k < length es → q ≤ (get_or es k x).0)
        → drop i es ≡ entries_from q es
    from_place es zero within low high = sym (all_kept q q es (omega arith) (kept es (λ k x h. high k x (omega arith) h)))
      where
        kept : (fs : List (ℕ × X)) → ((k : ℕ) (x : ℕ × X) → k < length fs → q ≤ (get_or fs k x).0) → From q fs
        kept [] all = tt
        kept (f ∷ fs) all = (all 0 f (omega arith), kept fs (λ k x h. all (suc k) x (omega arith)))
    from_place [] (suc i) within low high = absurd (omega arith)
    from_place (e ∷ es) (suc i) within low high =
        from_place es i (omega arith) (λ k x h. low (suc k) x (omega arith)) (λ k x h g. high (suc k) x (omega arith) (omega arith))
        ∙ sym (from-append q (e ∷ []) es ∙ ap (λ l. l ++ entries_from q es) (none_kept q q (e ∷ []) (omega arith) (low 0 e (omega arith), tt)))

    -- what a search for the id among the first ids tells
    module _ (cs : List (Node T)) (n : ℕ) (are : AreParts listed cs) (rising : HasRisingIds (entries_of cs))
        (parts : IsPartitionPoint (λ y. leb y.first q ≡ true) (λ y. leb y.first q ≡ false) cs n) where
      low_by : (k : ℕ) (x : Node T) → k < n → (get_or cs k x).first ≤ q
      low_by k x h = leb-true (get_or cs k x).first q (parts.0 k x (omega arith) h)

      high_by : (k : ℕ) (x : Node T) → n ≤ k → k < length cs → q < (get_or cs k x).first
      high_by k x h g = leb-false (get_or cs k x).first q (parts.1 k x h g)

      pub get_before : n ≡ 0 → find q (entries_of cs) ≡ None
      get_before first = none_in cs are rising (λ k x h. high_by k x (omega arith) h)

      pub from_before : n ≡ 0 → entries_from q (entries_of cs) ≡ entries_of cs
      from_before first = all_in cs are rising (λ k x h. high_by k x (omega arith) h)

      module _ (m : ℕ) (last : m + 1 ≡ n) (within : n ≤ length cs) (c : Node T) (here : c ≡ get_or cs m c) where
        pub get_in : find q (entries_of cs) ≡ find q (listed c)
        get_in =
            value_by_part cs m c are rising (omega arith) (λ k x h. low_by k x (omega arith)) (λ k x h g. high_by k x (omega arith) g)
            ∙ sym (ap (λ d. find q (listed d)) here)

        pub from_in : entries_from q (entries_of cs) ≡ entries_from q (listed c) ++ entries_of (drop n cs)
        from_in =
            from_by_part cs m c are rising (omega arith) (λ k x h. low_by k x (omega arith)) (λ k x h g. high_by k x (omega arith) g)
            ∙ sym (ap (λ d. entries_from q (listed d) ++ entries_of (drop (m + 1) cs)) here)
            ∙ ap (λ k. entries_from q (listed c) ++ entries_of (drop k cs)) last

        pub rises_in : HasRisingIds (listed c)
        rises_in = subst (λ d. HasRisingIds (listed d)) (sym here) (rises_part cs m c rising (omega arith))

    -- and one among entries
    pub from_search : (es : List (ℕ × X)) (i : ℕ) → i ≤ length es → IsPartitionPoint (λ y. ltb y.0 q ≡ true) (λ y. ltb y.0 q ≡ false) es i
        → drop i es ≡ entries_from q es
    from_search es i within parts =
        from_place es i within (λ k x h. ltb-true (get_or es k x).0 q (parts.0 k x (omega arith) h))
        (λ k x h g. ltb-false (get_or es k x).0 q (parts.1 k x h g))

  -- ---- what is gathered

  pub entries-push : (made : List (Node T)) (p : Node T) → entries_of (made ++ p ∷ []) ≡ entries_of made ++ listed p
  entries-push made p = flat_map-append listed made (p ∷ []) ∙ ap (λ l. entries_of made ++ l) (append-nil (listed p))

  -- the front of what waits becomes a part
  pub cut_keeps : (made made' : List (Node T)) (p : Node T) (waiting front later : List (ℕ × X)) → made' ≡ made ++ p ∷ []
      → listed p ≡ front → front ++ later ≡ waiting → entries_of made' ++ later ≡ entries_of made ++ waiting
  cut_keeps made made' p waiting front later pushed is whole =
      ap (λ l. entries_of l ++ later) pushed
      ∙ ap (λ l. l ++ later) (entries-push made p)
      ∙ append_assoc (entries_of made) (listed p) later
      ∙ ap (λ l. entries_of made ++ l) (ap (λ l. l ++ later) is ∙ whole)

  pub counted_all : (cs : List (Node T)) → AreParts listed cs → sum_by (λ p. p.count) cs ≡ length (entries_of cs)
  counted_all [] are = refl
  counted_all (c ∷ cs) are =
      omega (arith, sum_by-cons (λ p. p.count) c cs, are.0.1, counted_all cs are.1, length-append (listed c) (entries_of cs))

  -- parts begin where the first of them does
  starts-remaining : (m : ℕ) (a b : List (ℕ × X)) → StartsAt m a → StartsAt m (a ++ b)
  starts-remaining m [] b starts = absurd starts
  starts-remaining m (e ∷ a) b starts = starts

  pub starts_at_first : (cs : List (Node T)) (d : Node T) → 0 < length cs → AreParts listed cs → StartsAt (get_or cs 0 d).first (entries_of cs)
  starts_at_first [] d some are = absurd (omega arith)
  starts_at_first (c ∷ cs) d some are = starts-remaining c.first (listed c) (entries_of cs) are.0.0

  -- ---- changes

  pub changes_by_part : (c : Node T) (cs : List (Node T)) (here later : List (ℕ × Option X)) → AreParts listed (c ∷ cs)
      → HasRisingIds (entries_of (c ∷ cs)) → AreCut cs here later
      → with_changes (here ++ later) (entries_of (c ∷ cs)) ≡ with_changes here (listed c) ++ with_changes later (entries_of cs)
  changes_by_part c [] here later are rising cut =
      ap (λ l. with_changes (here ++ l) (listed c ++ [])) cut
      ∙ ap (λ l. with_changes l (listed c ++ [])) (append-nil here)
      ∙ ap (with_changes here) (append-nil (listed c))
      ∙ sym (append-nil (with_changes here (listed c)))
      ∙ sym (ap (λ l. with_changes here (listed c) ++ with_changes l []) cut)
  changes_by_part c (d ∷ ds) here later are rising cut =
      changes_in_parts d.first here later (listed c) (entries_of (d ∷ ds)) cut.0 cut.1 (below_part c d ds are rising)
      (from_part d ds are.1 (rises_right (listed c) (entries_of (d ∷ ds)) rising))

  -- the next part and the changes that fall into it
  pub part_turn : (gathered gathered' : List (ℕ × X)) (remaining cs : List (Node T)) (c : Node T) (todo here later : List (ℕ × Option X)) (n : ℕ)
      → remaining ≡ c ∷ cs → todo ≡ here ++ later → here ≡ take n todo → later ≡ drop n todo
      → AreParts listed remaining → HasRisingIds (entries_of remaining) → AreCut cs (take n todo) (drop n todo) → gathered' ≡ gathered ++ with_changes here (listed c)
      → gathered' ++ with_changes later (entries_of cs) ≡ gathered ++ with_changes todo (entries_of remaining)
  part_turn gathered gathered' remaining cs c todo here later n at parts front back are rising cut grown =
      let cut' = subst (λ l. AreCut cs here l) (sym back) (subst (λ l. AreCut cs l (drop n todo)) (sym front) cut) in
      ap (λ l. l ++ with_changes later (entries_of cs)) grown
      ∙ append_assoc gathered (with_changes here (listed c)) (with_changes later (entries_of cs))
      ∙ ap (λ l. gathered ++ l)
      (sym (changes_by_part c cs here later (subst (AreParts listed) at are) (subst (λ l. HasRisingIds (entries_of l)) at rising) cut'))
      ∙ sym (ap (λ l. gathered ++ with_changes l (entries_of (c ∷ cs))) parts)
      ∙ sym (ap (λ l. gathered ++ with_changes todo (entries_of l)) at)

-- ---- changes parted by a number

module _ {X : Type 0} where
  -- a number parts rising changes at a place
  pub parted : (m : ℕ) (cs : List (ℕ × Option X)) (i : ℕ) → i ≤ length cs
      → ((k : ℕ) (x : ℕ × Option X) → k < i → (get_or cs k x).0 < m) → ((k : ℕ) (x : ℕ × Option X) → i ≤ k → k < length cs → m ≤ (get_or cs k x).0)
      → Below m (take i cs) × From m (drop i cs)
  parted m cs i within low high = split_all (λ x. x.0 < m) (λ x. m ≤ x.0) cs i within low high

  -- where a search parts them
  pub cut_at : {T : Type 0} (all : List (Node T)) (c : Node T) (cs : List (Node T)) (changes : List (ℕ × Option X)) (i : ℕ) → all ≡ c ∷ cs → i ≤ length changes
      → IsPartitionPoint (λ y. ltb y.0 c.first ≡ true) (λ y. ltb y.0 c.first ≡ false) changes i → AreCut all (take i changes) (drop i changes)
  cut_at all c cs changes i is within parts =
      subst (λ l. AreCut l (take i changes) (drop i changes)) (sym is)
      (parted c.first changes i within (λ k x h. ltb-true (get_or changes k x).0 c.first (parts.0 k x (omega arith) h))
      (λ k x h g. ltb-false (get_or changes k x).0 c.first (parts.1 k x h g)))

  pub keys_rise : (changes : List (ℕ × Option X)) → ChangesRise changes → IsNonDecreasingBy (λ c. c.0) changes
  keys_rise changes rising i j d h within = rises changes i j d rising h within

-- ---- a sound map

module _ {X : Type 0} where
  empty_sound : AreSound {V = X} [] 0
  unfolding IsStrictlySortedBy
  empty_sound = record { rise = tt; groups_are = (tt, tt); counted = refl }

  pub none_sound : (groups : List (Node (Node (ℕ × X)))) → groups ≡ [] → AreSound groups 0
  none_sound groups none = subst (λ l. AreSound l 0) (sym none) empty_sound

  pub sound_of : (groups made : List (Node (Node (ℕ × X)))) (count : ℕ) → groups ≡ made → AreGroups made → HasRisingIds (all_of made)
      → count ≡ sum_by (λ p. p.count) made → AreSound groups count
  sound_of groups made count same are rising counted =
      subst (λ l. AreSound l count) (sym same) (record { rise = rising; groups_are = are; counted = counted ∙ counted_all grouped made are.0 })
