-- Bundles as they lie in memory: envelopes by target, and what is changed of them.
use Rattle.std.proofs.Common.{◌≡◌, ℕ, ◌+◌, ◌<◌, ◌≤◌, ◌==◌, suc, Bool, true, false, cond, List, [], ◌∷◌, ◌++◌, length, map, take, drop, get_or}
use Rattle.std.proofs.Common.{Option, None, Some, option_map, unwrap_or, refl, sym, ap, ap₂, ◌∙◌, subst, arith, append_assoc, ltb, leb}
use Rattle.std.specs.List.{AllByRecursion, sum_by}
use Rattle.std.specs.List.Sorted.{IsNonDecreasingBy, IsPartitionPoint, IsStrictlySortedBy}
use Rattle.std.specs.Ordering.{nat_cmp}
use Rattle.std.proofs.lemmas.Simd.{map-map}
use Rattle.std.specs.Option.{IfSome}
use Rattle.std.proofs.lemmas.Bool.Decides.{nat_tests}
use Rattle.std.proofs.lemmas.List.{map-append, take-append-drop}
use Rattle.std.proofs.lemmas.List.Sums.{sum_by-cons}
use Rattle.pg_map.specs.Entries.{ChangesRise, HasRisingIds, value_at, with_change, with_changes}
use Rattle.pg_map.proofs.Changing.{rises-changes, value_at-with_changes}
use Rattle.pg_map.proofs.Parts.{Below, From, changes-right, from_first, none_rise, rises_after, rises_right, split_all}
use Rattle.pg_map.proofs.Rising.{same_entries}
use Rattle.pg_map.proofs.Turns.{put, removed, skipped}
use Rattle.pg_model.proofs.LawsByNumber.{up_from}
use Rattle.pg_model.proofs.LawsLists.{all_to_map, all_weaker}
use Rattle.pg_model.specs.Superstep.{is_empty}
use Rattle.pg_inbox_messages.specs.Contents.{Holds, as_changes, contents_of}
use Rattle.pg_inbox_messages.specs.Grouping.{any_of, before_groups, groups_of, items_to}
use Rattle.pg_inbox_messages.specs.declared.message_list.Contents.{Contents}
use Rattle.pg_inbox_messages.proofs.Grouping.{any_of_none, from_groups, rises_groups, some_not_empty, stated_groups}
use Rattle.pg_inbox_bundles.specs.Bundles.{MessageLists}
use Rattle.pg_inbox_bundles.specs.Counting.{messages_where}
use Rattle.pg_inbox_bundles.specs.Holding.{HoldAll, HoldsAt}
use Rattle.pg_inbox_bundles.specs.Sound.{IsSound, needed, message_lists_with, sent_message_lists}
use Rattle.pg_inbox_bundles.proofs.Bundling.{rises-values, value_at-values}
use Rattle.pg_inbox_bundles.proofs.Replacing.{value_at-made}
use Rattle.pg_inbox_bundles.proofs.Held.{hold-all, hold-changes}

apart : (a b : ℕ) → a < b → (b == a) ≡ false
apart a b h = grind (arith, nat_tests)

is_below : (a b : ℕ) → ltb a b ≡ true → a < b
is_below a b h = grind (arith, nat_tests)

is_from : (a b : ℕ) → ltb a b ≡ false → b ≤ a
is_from a b h = grind (arith, nat_tests)

is_up_to : (a b : ℕ) → leb a b ≡ true → a < b + 1
is_up_to a b h = grind (arith, nat_tests)

is_past : (a b : ℕ) → leb a b ≡ false → b + 1 ≤ a
is_past a b h = grind (arith, nat_tests)

one_alone : (a b : ℕ) → b ≤ a → a < b + 1 → a ≡ b
one_alone a b h k = omega (arith, h, k)

all_first : {X : Type 0} (P : X → Type 0) (xs ys : List X) → AllByRecursion P (xs ++ ys) → AllByRecursion P xs
all_first P [] ys all = tt
all_first P (x ∷ xs) ys all = (all.0, all_first P xs ys all.1)

nothing_rises : (X : Type 0) → HasRisingIds {V = X} []
nothing_rises X = none_rise {X = X} [] refl

one_more : (n : ℕ) → 1 + n ≡ suc n
one_more n = omega arith

suc_more : (n m : ℕ) → suc n + m ≡ suc (n + m)
suc_more n m = omega arith

-- ---- values as changes

module _ {X : Type 0} where
  pub changes_given : (es : List (ℕ × X)) → HasRisingIds es → ChangesRise (as_changes es)
  changes_given es rise = rises-values Some es rise

  -- changes of nothing give what they give
  pub given_all : (es : List (ℕ × X)) → HasRisingIds es → with_changes (as_changes es) [] ≡ es
  given_all es rise =
      same_entries (with_changes (as_changes es) []) es (rises-changes (as_changes es) [] (nothing_rises X)) rise
      (λ q. value_at-with_changes (as_changes es) [] q (rises-values Some es rise) (nothing_rises X)
      ∙ (ap (λ o. unwrap_or o None) (value_at-values Some q es) ∙ back (value_at q es)))
    where
      back : (o : Option X) → unwrap_or (option_map Some o) None ≡ o
      back None = refl
      back (Some x) = refl

-- ---- items in two parts

module _ {X : Type 0} where
  before_apart : (i : ℕ × X) (m : ℕ) (gs hs : List (ℕ × List X)) → i.0 < m → From m hs → before_groups i (gs ++ hs) ≡ before_groups i gs ++ hs
  before_apart i m [] [] low from = refl
  before_apart i m [] (h ∷ hs) low from =
      ap (λ b. cond b ((i.0, i.1 ∷ h.1) ∷ hs) ((i.0, i.1 ∷ []) ∷ h ∷ hs)) (apart i.0 h.0 (omega (arith, low, from.0)))
  before_apart i m (g ∷ gs) hs low from = by (g.0 == i.0)
    where
      by : (b : Bool) → cond b ((i.0, i.1 ∷ g.1) ∷ (gs ++ hs)) ((i.0, i.1 ∷ []) ∷ g ∷ (gs ++ hs))
          ≡ cond b ((i.0, i.1 ∷ g.1) ∷ gs) ((i.0, i.1 ∷ []) ∷ g ∷ gs) ++ hs
      by true = refl
      by false = refl

  -- those below a number have no target in common with those that aren't
  groups_apart : (m : ℕ) (xs ys : List (ℕ × X)) → AllByRecursion (λ i. i.0 < m) xs → From m (groups_of ys)
      → groups_of (xs ++ ys) ≡ groups_of xs ++ groups_of ys
  groups_apart m [] ys below from = refl
  groups_apart m (x ∷ xs) ys below from =
      ap (before_groups x) (groups_apart m xs ys below.1 from) ∙ before_apart x m (groups_of xs) (groups_of ys) below.0 from

  below_before : (m : ℕ) (i : ℕ × X) (gs : List (ℕ × List X)) → i.0 < m → Below m gs → Below m (before_groups i gs)
  below_before m i [] low all = (low, tt)
  below_before m i (g ∷ gs) low all = by (g.0 == i.0)
    where
      by : (b : Bool) → Below m (cond b ((i.0, i.1 ∷ g.1) ∷ gs) ((i.0, i.1 ∷ []) ∷ g ∷ gs))
      by true = (low, all.1)
      by false = (low, all)

  below_groups : (m : ℕ) (items : List (ℕ × X)) → AllByRecursion (λ i. i.0 < m) items → Below m (groups_of items)
  below_groups m [] all = tt
  below_groups m (i ∷ items) all = below_before m i (groups_of items) all.0 (below_groups m items all.1)

-- ---- the message lists of envelopes

module _ {M : Type 0} where
  abbrev message_list_of : ℕ × List (ℕ × M) → ℕ × Contents M
  message_list_of g = (g.0, contents_of None g.1)

  pub sent_rise : (envelopes : List (ℕ × (ℕ × M))) → IsNonDecreasingBy (λ l. l.0) envelopes → HasRisingIds (sent_message_lists envelopes)
  sent_rise envelopes rise = rises-values (contents_of None) (groups_of envelopes) (rises_groups envelopes (up_from (λ l. l.0) envelopes rise))

  pub value_at_sent : (q : ℕ) (envelopes : List (ℕ × (ℕ × M))) → IsNonDecreasingBy (λ l. l.0) envelopes
      → value_at q (sent_message_lists envelopes) ≡ option_map (contents_of None) (any_of (items_to q envelopes))
  value_at_sent q envelopes rise =
      value_at-values (contents_of None) q (groups_of envelopes)
      ∙ ap (option_map (contents_of None)) (stated_groups q envelopes (up_from (λ l. l.0) envelopes rise))

  sent_apart : (m : ℕ) (xs ys : List (ℕ × (ℕ × M))) → AllByRecursion (λ l. l.0 < m) xs → AllByRecursion (λ l. m ≤ l.0) ys
      → sent_message_lists (xs ++ ys) ≡ sent_message_lists xs ++ sent_message_lists ys
  sent_apart m xs ys below from =
      ap (map message_list_of) (groups_apart m xs ys below (from_groups m ys from)) ∙ map-append message_list_of (groups_of xs) (groups_of ys)

  sent_from : (m : ℕ) (envelopes : List (ℕ × (ℕ × M))) → AllByRecursion (λ l. m ≤ l.0) envelopes → From m (sent_message_lists envelopes)
  sent_from m envelopes all = all_to_map message_list_of (λ e. m ≤ e.0) (groups_of envelopes) (from_groups m envelopes all)

  sent_below : (m : ℕ) (envelopes : List (ℕ × (ℕ × M))) → AllByRecursion (λ l. l.0 < m) envelopes → Below m (sent_message_lists envelopes)
  sent_below m envelopes all = all_to_map message_list_of (λ e. e.0 < m) (groups_of envelopes) (below_groups m envelopes all)

  -- how many messages they have
  abbrev count : ℕ × Contents M → ℕ
  count p = length p.1.envelopes

  counted_before : (i : ℕ × (ℕ × M)) (gs : List (ℕ × List (ℕ × M)))
      → sum_by count (map message_list_of (before_groups i gs)) ≡ suc (sum_by count (map message_list_of gs))
  counted_before i [] = sum_by-cons count (message_list_of (i.0, i.1 ∷ [])) [] ∙ one_more (sum_by count [])
  counted_before i (g ∷ gs) = by (g.0 == i.0)
    where
      rest : List (ℕ × Contents M)
      rest = map message_list_of gs

      by : (b : Bool) → sum_by count (map message_list_of (cond b ((i.0, i.1 ∷ g.1) ∷ gs) ((i.0, i.1 ∷ []) ∷ g ∷ gs)))
          ≡ suc (sum_by count (map message_list_of (g ∷ gs)))
      by true = sum_by-cons count (message_list_of (i.0, i.1 ∷ g.1)) rest ∙ suc_more (length g.1) (sum_by count rest) ∙ ap suc (sym (sum_by-cons count (message_list_of g) rest))
      by false = sum_by-cons count (message_list_of (i.0, i.1 ∷ [])) (message_list_of g ∷ rest) ∙ one_more (sum_by count (message_list_of g ∷ rest))

  pub messages_sent : (envelopes : List (ℕ × (ℕ × M))) → messages_where (λ _. true) (sent_message_lists envelopes) ≡ length envelopes
  messages_sent [] = refl
  messages_sent (l ∷ envelopes) = counted_before l (groups_of envelopes) ∙ ap suc (messages_sent envelopes)

  -- ---- with changes

  module _ (changes : List (ℕ × Option (Contents M))) (envelopes : List (ℕ × (ℕ × M))) (rise : IsNonDecreasingBy (λ l. l.0) envelopes) where
    pub with_rise : HasRisingIds (message_lists_with changes envelopes)
    with_rise = rises-changes changes (sent_message_lists envelopes) (sent_rise envelopes rise)

    module _ (changes_rise : ChangesRise changes) (q : ℕ) where
      -- a target that is changed
      pub value_changed : {o : Option (Contents M)} → value_at q changes ≡ Some o → value_at q (message_lists_with changes envelopes) ≡ o
      value_changed is =
          value_at-with_changes changes (sent_message_lists envelopes) q changes_rise (sent_rise envelopes rise)
          ∙ ap (λ o. unwrap_or o (value_at q (sent_message_lists envelopes))) is

      -- and one that isn't
      pub value_sent : value_at q changes ≡ None → value_at q (message_lists_with changes envelopes) ≡ option_map (contents_of None) (any_of (items_to q envelopes))
      value_sent is =
          value_at-with_changes changes (sent_message_lists envelopes) q changes_rise (sent_rise envelopes rise)
          ∙ ap (λ o. unwrap_or o (value_at q (sent_message_lists envelopes))) is
          ∙ value_at_sent q envelopes rise

  -- ---- more changes

  module _ (envelopes : List (ℕ × (ℕ × M))) (envelopes_rise : IsNonDecreasingBy (λ l. l.0) envelopes) (more : List (ℕ × Option (Contents M)))
      (rise : ChangesRise more) where
    pub needed_rise : ChangesRise (map (needed envelopes) more)
    needed_rise = subst (IsStrictlySortedBy nat_cmp) (sym (map-map (λ c. c.0) (needed envelopes) more)) rise

    -- what they give is put over the changes that are there
    pub changed_over : (changes : List (ℕ × Option (Contents M))) → ChangesRise changes
        → message_lists_with (with_changes (map (needed envelopes) more) changes) envelopes ≡ with_changes more (message_lists_with changes envelopes)
    changed_over changes changes_rise =
        same_entries (with_changes (with_changes given changes) base) (with_changes more (with_changes changes base))
        (rises-changes (with_changes given changes) base base_rise) (rises-changes more (with_changes changes base) both)
        (λ q. value_at-with_changes (with_changes given changes) base q (rises-changes given changes changes_rise) base_rise
        ∙ ap (λ o. unwrap_or o (value_at q base))
        (value_at-with_changes given changes q needed_rise changes_rise
        ∙ ap (λ o. unwrap_or o (value_at q changes)) (value_at-made (λ c. (needed envelopes c).1) q more))
        ∙ by q (value_at q more)
        ∙ sym (value_at-with_changes more (with_changes changes base) q rise both
        ∙ ap (λ x. unwrap_or (value_at q more) x) (value_at-with_changes changes base q changes_rise base_rise)))
      where
        base : MessageLists M
        base = sent_message_lists envelopes

        given : List (ℕ × Option (Option (Contents M)))
        given = map (needed envelopes) more

        base_rise : HasRisingIds base
        base_rise = sent_rise envelopes envelopes_rise

        both : HasRisingIds (with_changes changes base)
        both = rises-changes changes base base_rise

        none_by : (q : ℕ) (b : Bool) → is_empty (items_to q envelopes) ≡ b
            → unwrap_or (unwrap_or (Some (cond b None (Some None))) (value_at q changes)) (value_at q base) ≡ None
        none_by q true e = value_at_sent q envelopes envelopes_rise ∙ ap (option_map (contents_of None)) (any_of_none (items_to q envelopes) e)
        none_by q false e = refl

        by : (q : ℕ) (o : Option (Option (Contents M)))
            → unwrap_or (unwrap_or (option_map (λ x. (needed envelopes (q, x)).1) o) (value_at q changes)) (value_at q base)
            ≡ unwrap_or o (unwrap_or (value_at q changes) (value_at q base))
        by q None = refl
        by q (Some None) = none_by q (is_empty (items_to q envelopes)) refl
        by q (Some (Some contents)) = refl

  -- ---- the next change, and the envelopes up to its target

  module _ (id : ℕ) (change : Option (Contents M)) (todo : List (ℕ × Option (Contents M))) (rise : ChangesRise ((id, change) ∷ todo)) where
    -- what stands at its target makes no difference
    skip_all : (es others : MessageLists M) → HasRisingIds (es ++ others) → From id es → Below (id + 1) es
        → with_changes ((id, change) ∷ todo) (es ++ others) ≡ with_changes ((id, change) ∷ todo) others
    skip_all [] others rises from below = refl
    skip_all (e ∷ es) others rises from below =
        skipped (id, change) todo rise e (es ++ others) (one_alone e.0 id from.0 below.0) rises
        ∙ skip_all es others (rises_after e (es ++ others) rises) from.1 below.1

    turn : (others : MessageLists M) → From (id + 1) others
        → with_changes ((id, change) ∷ todo) others ≡ with_change id change [] ++ with_changes todo others
    turn others from = by change refl
      where
        by : (c : Option (Contents M)) → change ≡ c → with_changes ((id, change) ∷ todo) others ≡ with_change id c [] ++ with_changes todo others
        by None is = removed (id, change) todo rise others from is
        by (Some v) is = put (id, change) todo rise others from v is

    message_lists_turn : (here middle later : List (ℕ × (ℕ × M))) → HasRisingIds (sent_message_lists (here ++ (middle ++ later)))
        → AllByRecursion (λ l. l.0 < id) here → AllByRecursion (λ l. id ≤ l.0) (middle ++ later)
        → AllByRecursion (λ l. l.0 < id + 1) middle → AllByRecursion (λ l. id + 1 ≤ l.0) later
        → message_lists_with ((id, change) ∷ todo) (here ++ (middle ++ later)) ≡ sent_message_lists here ++ (with_change id change [] ++ message_lists_with todo later)
    message_lists_turn here middle later rises below from at past =
        let cut : sent_message_lists (here ++ (middle ++ later)) ≡ sent_message_lists here ++ sent_message_lists (middle ++ later) = sent_apart id here (middle ++ later) below from in
        let cut' : sent_message_lists (middle ++ later) ≡ sent_message_lists middle ++ sent_message_lists later = sent_apart (id + 1) middle later at past in
        ap (with_changes ((id, change) ∷ todo)) cut
        ∙ changes-right id ((id, change) ∷ todo) (sent_message_lists here) (sent_message_lists (middle ++ later)) (sent_below id here below) (from_first (id, change) todo rise)
        ∙ ap (λ l. sent_message_lists here ++ l)
        (ap (with_changes ((id, change) ∷ todo)) cut'
        ∙ skip_all (sent_message_lists middle) (sent_message_lists later)
        (subst HasRisingIds cut' (rises_right (sent_message_lists here) (sent_message_lists (middle ++ later)) (subst HasRisingIds cut rises)))
        (sent_from id middle (all_first (λ l. id ≤ l.0) middle later from)) (sent_below (id + 1) middle at)
        ∙ turn (sent_message_lists later) (sent_from (id + 1) later past))

  module _ (id : ℕ) (change : Option (Contents M)) (envelopes here from later : List (ℕ × (ℕ × M))) (n k : ℕ)
      (rise : IsNonDecreasingBy (λ l. l.0) envelopes) (within : n ≤ length envelopes)
      (parts : IsPartitionPoint (λ l. ltb l.0 id ≡ true) (λ l. ltb l.0 id ≡ false) envelopes n)
      (front : here ≡ take n envelopes) (back : from ≡ drop n envelopes)
      (within' : k ≤ length from) (parts' : IsPartitionPoint (λ l. leb l.0 id ≡ true) (λ l. leb l.0 id ≡ false) from k)
      (rest : later ≡ drop k from) where
    -- in two searches
    pub message_lists_up_to : (before after : MessageLists M) → after ≡ (before ++ sent_message_lists here) ++ with_change id change []
        → (todo : List (ℕ × Option (Contents M))) → ChangesRise ((id, change) ∷ todo)
        → after ++ message_lists_with todo later ≡ before ++ message_lists_with ((id, change) ∷ todo) envelopes
    message_lists_up_to before after grown todo todo_rise =
        let low = split_all (λ l. l.0 < id) (λ l. id ≤ l.0) envelopes n within
        (λ i d h. is_below (get_or envelopes i d).0 id (parts.0 i d (omega (arith, h, within)) h))
        (λ i d h g. is_from (get_or envelopes i d).0 id (parts.1 i d h g)) in
        let high = split_all (λ l. l.0 < id + 1) (λ l. id + 1 ≤ l.0) from k within'
        (λ i d h. is_up_to (get_or from i d).0 id (parts'.0 i d (omega (arith, h, within')) h))
        (λ i d h g. is_past (get_or from i d).0 id (parts'.1 i d h g)) in
        let middle = take k from in
        let cut : middle ++ later ≡ from = ap (λ l. middle ++ l) rest ∙ take-append-drop k from in
        let whole : here ++ (middle ++ later) ≡ envelopes = ap₂ ◌++◌ front (cut ∙ back) ∙ take-append-drop n envelopes in
        let made =
        message_lists_turn id change todo todo_rise here middle later
        (subst (λ l. HasRisingIds (sent_message_lists l)) (sym whole) (sent_rise envelopes rise))
        (subst (AllByRecursion (λ l. l.0 < id)) (sym front) low.0)
        (subst (AllByRecursion (λ l. id ≤ l.0)) (sym (cut ∙ back)) low.1)
        high.0 (subst (AllByRecursion (λ l. id + 1 ≤ l.0)) (sym rest) high.1) in
        ap (λ l. l ++ message_lists_with todo later) grown
        ∙ append_assoc (before ++ sent_message_lists here) (with_change id change []) (message_lists_with todo later)
        ∙ append_assoc before (sent_message_lists here) (with_change id change [] ++ message_lists_with todo later)
        ∙ ap (λ l. before ++ l) (sym made ∙ ap (message_lists_with ((id, change) ∷ todo)) whole)

  -- ---- what they hold

  module _ (is_value : M → Type 0) where
    abbrev GroupHolds : ℕ × List (ℕ × M) → Type 0
    GroupHolds g = (is_empty g.1 ≡ false) × AllByRecursion (λ l. is_value l.1) g.1

    before_holds : (i : ℕ × (ℕ × M)) (gs : List (ℕ × List (ℕ × M))) → is_value i.1.1 → AllByRecursion GroupHolds gs
        → AllByRecursion GroupHolds (before_groups i gs)
    before_holds i [] here all = ((some_not_empty i.1 [], (here, tt)), tt)
    before_holds i (g ∷ gs) here all = by (g.0 == i.0)
      where
        by : (b : Bool) → AllByRecursion GroupHolds (cond b ((i.0, i.1 ∷ g.1) ∷ gs) ((i.0, i.1 ∷ []) ∷ g ∷ gs))
        by true = ((some_not_empty i.1 g.1, (here, all.0.1)), all.1)
        by false = ((some_not_empty i.1 [], (here, tt)), all)

    groups_hold : (envelopes : List (ℕ × (ℕ × M))) → AllByRecursion (λ l. is_value l.1.1) envelopes → AllByRecursion GroupHolds (groups_of envelopes)
    groups_hold [] all = tt
    groups_hold (l ∷ envelopes) all = before_holds l (groups_of envelopes) all.0 (groups_hold envelopes all.1)

    -- envelopes that were sent, with no change
    pub sound_sent : (envelopes : List (ℕ × (ℕ × M))) → IsNonDecreasingBy (λ l. l.0) envelopes → AllByRecursion (λ l. is_value l.1.1) envelopes
        → IsSound is_value [] envelopes
    sound_sent envelopes rise values = record {
      envelopes_rise = rise;
      changes_rise = nothing_rises (Option (Contents M));
      hold = hold-all is_value (sent_message_lists envelopes)
          (all_to_map message_list_of (λ e. Holds is_value e.1) (groups_of envelopes) (groups_hold envelopes values));
    }

    -- changes of no envelopes
    pub sound_changes : (changes : List (ℕ × Option (Contents M))) → ChangesRise changes → AllByRecursion (λ c. IfSome c.1 (Holds is_value)) changes
        → IsSound is_value changes []
    sound_changes changes rise hold = record {
      envelopes_rise = λ i j d le within. absurd (omega (arith, within));
      changes_rise = rise;
      hold = hold-changes is_value changes [] (all_weaker (λ c. IfSome c.1 (Holds is_value)) (λ c. HoldsAt is_value c.1) (λ c h. at c.1 h) changes hold)
          (hold-all is_value [] tt);
    }
      where
        at : (o : Option (Contents M)) → IfSome o (Holds is_value) → HoldsAt is_value o
        at None h = tt
        at (Some contents) h = h

    -- more changes
    pub sound_more : (more changes : List (ℕ × Option (Contents M))) (envelopes : List (ℕ × (ℕ × M))) → IsSound is_value changes envelopes → ChangesRise more
        → AllByRecursion (λ c. HoldsAt is_value c.1) more → IsSound is_value (with_changes (map (needed envelopes) more) changes) envelopes
    sound_more more changes envelopes sound rise hold = record {
      envelopes_rise = sound.envelopes_rise;
      changes_rise = rises-changes (map (needed envelopes) more) changes sound.changes_rise;
      hold = subst (HoldAll is_value) (sym (changed_over envelopes sound.envelopes_rise more rise changes sound.changes_rise))
          (hold-changes is_value more (message_lists_with changes envelopes) hold sound.hold);
    }
