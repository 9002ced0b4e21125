-- Items that stand by target, and what there is of each target then.
use Rattle.std.proofs.Common.{◌≡◌, ℕ, ◌+◌, ◌≤◌, ◌==◌, Bool, true, false, cond, not, ◌&&◌, is_lt, suc, zero, List, [], ◌∷◌, length}
use Rattle.std.proofs.Common.{map, take, drop, Option, None, Some, refl, sym, ap, ap₂, ◌++◌, ◌∙◌, subst, arith, eq-eqb, eqb-true, get_or, ltb, true≢false}
use Rattle.std.specs.List.{AllByRecursion, filter}
use Rattle.std.specs.List.Sorted.{IsNonDecreasingBy, IsPartitionPoint, IsStableByKey, IsStrictlySortedBy, ties}
use Rattle.std.specs.BTreeMap.{is_at}
use Rattle.std.specs.Map.{keys_of}
use Rattle.std.specs.Ordering.{nat_cmp}
use Rattle.std.specs.declared.cmp.Ordering.TheVariants.{Less}
use Rattle.std.proofs.lemmas.Bool.Decides.{nat_tests}
use Rattle.std.proofs.lemmas.List.{take-append-drop}
use Rattle.std.proofs.lemmas.List.Elements.{filter-append, filter_agree}
use Rattle.std.proofs.lemmas.Map.Entries.{lookup_head, lookup_tail}
use Rattle.pg_map.specs.Entries.{HasRisingIds, value_at}
use Rattle.pg_map.proofs.Parts.{From, above_first, from_weaker, is_less, none_from, split_all}
use Rattle.pg_map.proofs.Rising.{at_other, at_same}
use Rattle.pg_model.proofs.LawsByNumber.{IsUp, up_from}
use Rattle.pg_model.specs.Superstep.{is_empty}
use Rattle.pg_inbox_messages.specs.Grouping.{AreGroups, IsFirstGroup, any_of, before_groups, groups_of, items_to, run_len}

other_id : (a b : ℕ) → (a == b) ≡ false → b ≡ a → ⊥
other_id a b h e = grind (arith, nat_tests)

higher : (a b : ℕ) → (b == a) ≡ false → a ≤ b → a + 1 ≤ b
higher a b h e = grind (arith, nat_tests)

above_apart : (q i : ℕ) → q + 1 ≤ i → (i == q) ≡ false
above_apart q i h = grind (arith, nat_tests)

below_apart : (q i : ℕ) → i + 1 ≤ q → (i == q) ≡ false
below_apart q i h = grind (arith, nat_tests)

below_by : (a b : ℕ) → ltb a b ≡ true → a + 1 ≤ b
below_by a b h = grind (arith, nat_tests)

not_below : (a b : ℕ) → ltb a b ≡ false → b ≤ a
not_below a b h = grind (arith, nat_tests)

tied : (a b : ℕ) → not (is_lt (nat_cmp a b)) && not (is_lt (nat_cmp b a)) ≡ (b == a)
tied a b = grind (arith, nat_tests)

pub some_not_empty : {X : Type 0} (x : X) (l : List X) → is_empty (x ∷ l) ≡ false
some_not_empty x l = grind (arith, nat_tests)

pub any_of_some : {X : Type 0} (l : List X) → is_empty l ≡ false → any_of l ≡ Some l
any_of_some [] none = absurd (true≢false none)
any_of_some (x ∷ l) some = refl

pub any_of_none : {X : Type 0} (l : List X) → is_empty l ≡ true → any_of l ≡ None
any_of_none [] none = refl
any_of_none (x ∷ l) none = absurd (true≢false (sym none ∙ some_not_empty x l))

module _ {X : Type 0} where
  -- ---- the first target

  first_run : (i : ℕ × X) (l : List (ℕ × X))
      → groups_of (i ∷ l) ≡ (i.0, map (λ i. i.1) (i ∷ take (run_len i.0 l) l)) ∷ groups_of (drop (run_len i.0 l) l)
  first_run i [] = refl
  first_run i (j ∷ l) = ap (before_groups i) (first_run j l) ∙ by (j.0 == i.0) refl (first_run j l)
    where
      by : (b : Bool) → (j.0 == i.0) ≡ b
          → groups_of (j ∷ l) ≡ (j.0, map (λ i. i.1) (j ∷ take (run_len j.0 l) l)) ∷ groups_of (drop (run_len j.0 l) l)
          → cond b ((i.0, i.1 ∷ map (λ i. i.1) (j ∷ take (run_len j.0 l) l)) ∷ groups_of (drop (run_len j.0 l) l))
          ((i.0, i.1 ∷ []) ∷ (j.0, map (λ i. i.1) (j ∷ take (run_len j.0 l) l)) ∷ groups_of (drop (run_len j.0 l) l))
          ≡ (i.0, map (λ i. i.1) (i ∷ take (cond b (suc (run_len i.0 l)) zero) (j ∷ l))) ∷ groups_of (drop (cond b (suc (run_len i.0 l)) zero) (j ∷ l))
      by true e later = ap (λ k. (i.0, i.1 ∷ map (λ i. i.1) (j ∷ take (run_len k l) l)) ∷ groups_of (drop (run_len k l) l)) (eqb-true j.0 i.0 e)
      by false e later = ap (λ gs. (i.0, i.1 ∷ []) ∷ gs) (sym later)

  pub run_within : (target : ℕ) (items : List (ℕ × X)) → run_len target items ≤ length items
  run_within target [] = omega arith
  run_within target (i ∷ items) = by (i.0 == target) (run_within target items)
    where
      by : (b : Bool) → run_len target items ≤ length items → cond b (suc (run_len target items)) zero ≤ length (i ∷ items)
      by true h = omega arith
      by false h = omega arith

  -- as many items as are to the first target are its group
  pub first_group_is : (items : List (ℕ × X)) (first : ℕ × X) (rest here later : List (ℕ × X)) (n : ℕ) → items ≡ first ∷ rest
      → n ≡ run_len first.0 items → here ≡ take n items → later ≡ drop n items → length later + n ≡ length items
      → IsFirstGroup items first.0 here later
  first_group_is items first rest here later n is counted front back lengths =
      let count : n ≡ suc (run_len first.0 rest) =
      counted ∙ ap (run_len first.0) is ∙ ap (λ b. cond b (suc (run_len first.0 rest)) zero) (eq-eqb first.0 first.0 refl) in
      let group : here ≡ first ∷ take (run_len first.0 rest) rest = front ∙ ap (take n) is ∙ ap (λ n. take n (first ∷ rest)) count in
      let others : later ≡ drop (run_len first.0 rest) rest = back ∙ ap (drop n) is ∙ ap (λ n. drop n (first ∷ rest)) count in
      record {
        whole = sym (take-append-drop n items) ∙ ap₂ ◌++◌ (sym front) (sym back);
        some = ap is_empty group ∙ some_not_empty first (take (run_len first.0 rest) rest);
        fewer = omega (arith, count, lengths);
        groups = ap groups_of is ∙ first_run first rest
            ∙ (ap (λ l. (first.0, map (λ i. i.1) l) ∷ groups_of (drop (run_len first.0 rest) rest)) (sym group)
            ∙ ap (λ l. (first.0, map (λ i. i.1) here) ∷ groups_of l) (sym others));
      }

  -- ---- an item before groups

  abbrev opened : Option (List X) → List X
  opened o = elim o [ None ↦ [] | Some xs ↦ xs ]

  opened_any : (l : List X) → opened (any_of l) ≡ l
  opened_any [] = refl
  opened_any (x ∷ l) = refl

  from_before : (m : ℕ) (i : ℕ × X) (gs : List (ℕ × List X)) → m ≤ i.0 → From m gs → From m (before_groups i gs)
  from_before m i [] h all = (h, tt)
  from_before m i (g ∷ gs) h all = by (g.0 == i.0)
    where
      by : (b : Bool) → From m (cond b ((i.0, i.1 ∷ g.1) ∷ gs) ((i.0, i.1 ∷ []) ∷ g ∷ gs))
      by true = (h, all.1)
      by false = (h, all)

  pub from_groups : (m : ℕ) (items : List (ℕ × X)) → AllByRecursion (λ i. m ≤ i.0) items → From m (groups_of items)
  from_groups m [] all = tt
  from_groups m (i ∷ items) all = from_before m i (groups_of items) all.0 (from_groups m items all.1)

  rises_first : (i : ℕ) (xs : List X) (gs : List (ℕ × List X)) → From (i + 1) gs → HasRisingIds gs → HasRisingIds ((i, xs) ∷ gs)
  unfolding IsStrictlySortedBy
  rises_first i xs gs above rise = (keys gs above, rise)
    where
      keys : (gs : List (ℕ × List X)) → From (i + 1) gs → AllByRecursion (λ k. nat_cmp i k ≡ Less) (keys_of gs)
      keys [] h = tt
      keys (g ∷ gs) h = (is_less i g.0 (let a = h.0 in omega arith), keys gs h.1)

  module _ (i : ℕ × X) where
    above : (g : ℕ × List X) (gs : List (ℕ × List X)) → (g.0 == i.0) ≡ false → From i.0 (g ∷ gs) → HasRisingIds (g ∷ gs) → From (i.0 + 1) (g ∷ gs)
    above g gs e from rise =
        let h = higher i.0 g.0 e from.0 in (h, from_weaker (i.0 + 1) (g.0 + 1) gs (omega arith) (above_first g gs rise))

    rises_before : (gs : List (ℕ × List X)) → From i.0 gs → HasRisingIds gs → HasRisingIds (before_groups i gs)
    rises_before [] from rise = rises_first i.0 (i.1 ∷ []) [] tt rise
    rises_before (g ∷ gs) from rise = by (g.0 == i.0) refl
      where
        by : (b : Bool) → (g.0 == i.0) ≡ b → HasRisingIds (cond b ((i.0, i.1 ∷ g.1) ∷ gs) ((i.0, i.1 ∷ []) ∷ g ∷ gs))
        by true e = subst (λ k. HasRisingIds ((k, i.1 ∷ g.1) ∷ gs)) (eqb-true g.0 i.0 e) rise
        by false e = rises_first i.0 (i.1 ∷ []) (g ∷ gs) (above g gs e from rise) rise

    same_before : (gs : List (ℕ × List X)) → From i.0 gs → HasRisingIds gs
        → value_at i.0 (before_groups i gs) ≡ Some (i.1 ∷ opened (value_at i.0 gs))
    same_before [] from rise = lookup_head (is_at (nat_cmp i.0)) (i.0, i.1 ∷ []) [] (at_same i.0)
    same_before (g ∷ gs) from rise = by (g.0 == i.0) refl
      where
        by : (b : Bool) → (g.0 == i.0) ≡ b
            → value_at i.0 (cond b ((i.0, i.1 ∷ g.1) ∷ gs) ((i.0, i.1 ∷ []) ∷ g ∷ gs)) ≡ Some (i.1 ∷ opened (value_at i.0 (g ∷ gs)))
        by true e =
            lookup_head (is_at (nat_cmp i.0)) (i.0, i.1 ∷ g.1) gs (at_same i.0)
            ∙ ap (λ o. Some (i.1 ∷ opened o))
            (sym (lookup_head (is_at (nat_cmp i.0)) g gs (ap (is_at (nat_cmp i.0)) (eqb-true g.0 i.0 e) ∙ at_same i.0)))
        by false e =
            lookup_head (is_at (nat_cmp i.0)) (i.0, i.1 ∷ []) (g ∷ gs) (at_same i.0)
            ∙ ap (λ o. Some (i.1 ∷ opened o)) (sym (none_from i.0 (i.0 + 1) (g ∷ gs) (omega arith) (above g gs e from rise)))

    other_before : (q : ℕ) → (q ≡ i.0 → ⊥) → (gs : List (ℕ × List X)) → value_at q (before_groups i gs) ≡ value_at q gs
    other_before q apart [] = lookup_tail (is_at (nat_cmp q)) (i.0, i.1 ∷ []) [] (at_other q i.0 apart)
    other_before q apart (g ∷ gs) = by (g.0 == i.0) refl
      where
        by : (b : Bool) → (g.0 == i.0) ≡ b → value_at q (cond b ((i.0, i.1 ∷ g.1) ∷ gs) ((i.0, i.1 ∷ []) ∷ g ∷ gs)) ≡ value_at q (g ∷ gs)
        by true e =
            lookup_tail (is_at (nat_cmp q)) (i.0, i.1 ∷ g.1) gs (at_other q i.0 apart)
            ∙ sym (lookup_tail (is_at (nat_cmp q)) g gs (at_other q g.0 (λ s. apart (s ∙ eqb-true g.0 i.0 e))))
        by false e = lookup_tail (is_at (nat_cmp q)) (i.0, i.1 ∷ []) (g ∷ gs) (at_other q i.0 apart)

  -- ---- items by rising target

  pub rises_groups : (items : List (ℕ × X)) → IsUp (λ i. i.0) items → HasRisingIds (groups_of items)
  unfolding IsStrictlySortedBy
  rises_groups [] up = tt
  rises_groups (i ∷ items) up = rises_before i (groups_of items) (from_groups i.0 items up.0) (rises_groups items up.1)

  -- each target has those of the items that go to it
  pub stated_groups : (q : ℕ) (items : List (ℕ × X)) → IsUp (λ i. i.0) items → value_at q (groups_of items) ≡ any_of (items_to q items)
  stated_groups q [] up = refl
  stated_groups q (i ∷ items) up = by (i.0 == q) refl (stated_groups q items up.1)
    where
      gs : List (ℕ × List X)
      gs = groups_of items

      by : (b : Bool) → (i.0 == q) ≡ b → value_at q gs ≡ any_of (items_to q items)
          → value_at q (before_groups i gs) ≡ any_of (map (λ i. i.1) (cond b (i ∷ filter (λ i. i.0 == q) items) (filter (λ i. i.0 == q) items)))
      by true e stated =
          let same = eqb-true i.0 q e in
          subst (λ k. value_at k (before_groups i gs) ≡ Some (i.1 ∷ opened (value_at k gs))) same
          (same_before i gs (from_groups i.0 items up.0) (rises_groups items up.1))
          ∙ ap (λ l. Some (i.1 ∷ l)) (ap opened stated ∙ opened_any (items_to q items))
      by false e stated = other_before i q (other_id i.0 q e) gs ∙ stated

  -- ---- the items to one target

  pub run_later : (q : ℕ) (items : List (ℕ × X)) → AllByRecursion (λ i. q + 1 ≤ i.0) items → filter (λ i. i.0 == q) items ≡ []
  run_later q [] all = refl
  run_later q (i ∷ items) all =
      ap (λ b. cond b (i ∷ filter (λ i. i.0 == q) items) (filter (λ i. i.0 == q) items)) (above_apart q i.0 all.0) ∙ run_later q items all.1

  pub all_higher : (a b : ℕ) (items : List (ℕ × X)) → a ≤ b → AllByRecursion (λ i. b ≤ i.0) items → AllByRecursion (λ i. a ≤ i.0) items
  all_higher a b [] h all = tt
  all_higher a b (i ∷ items) h all = (let k = all.0 in omega arith, all_higher a b items h all.1)

  -- where none is below a number, those of it stand at the beginning
  pub run_is : (q : ℕ) (items : List (ℕ × X)) → AllByRecursion (λ i. q ≤ i.0) items → IsUp (λ i. i.0) items
      → take (run_len q items) items ≡ filter (λ i. i.0 == q) items
  run_is q [] all up = refl
  run_is q (i ∷ items) all up = by (i.0 == q) refl (run_is q items all.1 up.1)
    where
      by : (b : Bool) → (i.0 == q) ≡ b → take (run_len q items) items ≡ filter (λ i. i.0 == q) items
          → take (cond b (suc (run_len q items)) zero) (i ∷ items) ≡ cond b (i ∷ filter (λ i. i.0 == q) items) (filter (λ i. i.0 == q) items)
      by true e h = ap (λ l. i ∷ l) h
      by false e h = sym (run_later q items (all_higher (q + 1) i.0 items (higher q i.0 e all.0) up.0))

  -- behind the items to a target that is the lowest, all are to higher ones
  pub after_run : (q : ℕ) (items : List (ℕ × X)) → AllByRecursion (λ i. q ≤ i.0) items → IsUp (λ i. i.0) items
      → AllByRecursion (λ i. q + 1 ≤ i.0) (drop (run_len q items) items)
  after_run q [] all up = tt
  after_run q (i ∷ items) all up = by (i.0 == q) refl (after_run q items all.1 up.1)
    where
      by : (b : Bool) → (i.0 == q) ≡ b → AllByRecursion (λ i. q + 1 ≤ i.0) (drop (run_len q items) items)
          → AllByRecursion (λ i. q + 1 ≤ i.0) (drop (cond b (suc (run_len q items)) zero) (i ∷ items))
      by true e later = later
      by false e later = let h = higher q i.0 e all.0 in (h, all_higher (q + 1) i.0 items h up.0)

  -- and those to others are all there
  pub others_after_run : (q other : ℕ) → (q == other) ≡ false → (items : List (ℕ × X))
      → filter (λ i. i.0 == other) (drop (run_len q items) items) ≡ filter (λ i. i.0 == other) items
  others_after_run q other apart [] = refl
  others_after_run q other apart (i ∷ items) = by (i.0 == q) refl (others_after_run q other apart items)
    where
      by : (b : Bool) → (i.0 == q) ≡ b → filter (λ i. i.0 == other) (drop (run_len q items) items) ≡ filter (λ i. i.0 == other) items
          → filter (λ i. i.0 == other) (drop (cond b (suc (run_len q items)) zero) (i ∷ items)) ≡ filter (λ i. i.0 == other) (i ∷ items)
      by true e later =
          later
          ∙ sym (ap (λ b. cond b (i ∷ filter (λ i. i.0 == other) items) (filter (λ i. i.0 == other) items))
          (ap (λ k. k == other) (eqb-true i.0 q e) ∙ apart))
      by false e later = refl

  below_none : (q : ℕ) (items : List (ℕ × X)) → AllByRecursion (λ i. i.0 + 1 ≤ q) items → filter (λ i. i.0 == q) items ≡ []
  below_none q [] all = refl
  below_none q (i ∷ items) all =
      ap (λ b. cond b (i ∷ filter (λ i. i.0 == q) items) (filter (λ i. i.0 == q) items)) (below_apart q i.0 all.0) ∙ below_none q items all.1

  pub up_drop : (n : ℕ) (items : List (ℕ × X)) → IsUp (λ i. i.0) items → IsUp (λ i. i.0) (drop n items)
  up_drop zero items up = up
  up_drop (suc n) [] up = tt
  up_drop (suc n) (i ∷ items) up = up_drop n items up.1

  -- of items by rising number, those from the first that isn't below a number on, as many as are of it
  pub items_found : (q : ℕ) (items from here : List (ℕ × X)) (n r : ℕ) → IsNonDecreasingBy (λ i. i.0) items → n ≤ length items
      → IsPartitionPoint (λ i. ltb i.0 q ≡ true) (λ i. ltb i.0 q ≡ false) items n → from ≡ drop n items → r ≡ run_len q from → here ≡ take r from
      → map (λ i. i.1) here ≡ items_to q items
  items_found q items from here n r rise within parts back counted front =
      let both = split_all (λ i. i.0 + 1 ≤ q) (λ i. q ≤ i.0) items n within
      (λ k d h. below_by (get_or items k d).0 q (parts.0 k d (omega arith) h)) (λ k d h g. not_below (get_or items k d).0 q (parts.1 k d h g)) in
      let up = up_drop n items (up_from (λ i. i.0) items rise) in
      let cut : filter (λ i. i.0 == q) items ≡ filter (λ i. i.0 == q) (drop n items) =
      ap (filter (λ i. i.0 == q)) (sym (take-append-drop n items)) ∙ filter-append (λ (i : ℕ × X). i.0 == q) (take n items) (drop n items)
      ∙ ap (λ l. l ++ filter (λ i. i.0 == q) (drop n items)) (below_none q (take n items) both.0) in
      ap (map (λ i. i.1)) (front ∙ ap (λ k. take k from) counted ∙ ap (λ l. take (run_len q l) l) back ∙ run_is q (drop n items) both.1 up ∙ sym cut)

  -- ---- a stable sort

  stays_with : X → (items sorted : List (ℕ × X)) → IsStableByKey (λ i. i.0) nat_cmp items sorted → (q : ℕ)
      → filter (λ i. i.0 == q) sorted ≡ filter (λ i. i.0 == q) items
  stays_with d items sorted stable q =
      let as_ties = λ (l : List (ℕ × X)). filter_agree (λ i. i.0 == q) (ties (λ x y. is_lt (nat_cmp x.0 y.0)) (q, d)) (λ i. sym (tied q i.0)) l in
      as_ties sorted ∙ stable (q, d) ∙ sym (as_ties items)

  -- a stable sort by a number leaves the items of each number in their order
  pub stays : (items sorted : List (ℕ × X)) → IsStableByKey (λ i. i.0) nat_cmp items sorted → (q : ℕ)
      → filter (λ i. i.0 == q) sorted ≡ filter (λ i. i.0 == q) items
  stays [] [] stable q = refl
  stays [] (s ∷ sorted) stable q = stays_with s.1 [] (s ∷ sorted) stable q
  stays (i ∷ items) sorted stable q = stays_with i.1 (i ∷ items) sorted stable q

  -- items that rise and are the same of each number
  pub groups_of_same : (items sorted : List (ℕ × X)) → IsNonDecreasingBy (λ i. i.0) sorted
      → ((q : ℕ) → filter (λ i. i.0 == q) sorted ≡ filter (λ i. i.0 == q) items) → AreGroups items (groups_of sorted)
  groups_of_same items sorted rise same =
      let up = up_from (λ i. i.0) sorted rise in
      record {
        rise = rises_groups sorted up;
        stated = λ target. stated_groups target sorted up ∙ ap (λ l. any_of (map (λ i. i.1) l)) (same target);
      }

  pub groups_of_sorted : (items sorted : List (ℕ × X)) → IsNonDecreasingBy (λ i. i.0) sorted → IsStableByKey (λ i. i.0) nat_cmp items sorted
      → AreGroups items (groups_of sorted)
  groups_of_sorted items sorted rise stable = groups_of_same items sorted rise (stays items sorted stable)
