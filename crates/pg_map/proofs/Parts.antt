-- Entries in two parts, the ids of one below those of the other: what is found, and what changes make of each.
use Rattle.std.proofs.Common.{◌≡◌, ℕ, zero, suc, ◌+◌, ◌<◌, ◌≤◌, length, get_or, take, drop, Bool, true, false, cond, List, [], ◌∷◌, ◌++◌, Option}
use Rattle.std.proofs.Common.{Some, None, Ordering, is_some, leb, refl, ap, sym, ◌∙◌, subst, arith}
use Rattle.std.specs.declared.cmp.Ordering.TheVariants.{Less, Equal, Greater}
use Rattle.std.specs.Ordering.{nat_cmp, match_ordering}
use Rattle.std.specs.BTreeMap.{insert_entry, is_at}
use Rattle.std.specs.Map.{keys_of, remove_entry}
use Rattle.std.specs.List.{AllByRecursion}
use Rattle.std.specs.List.Sorted.{IsStrictlySortedBy}
use Rattle.std.proofs.lemmas.Bool.{true≢false, le-leb, lt-leb}
use Rattle.std.proofs.lemmas.Bool.Decides.{nat_tests}
use Rattle.std.proofs.lemmas.List.Elements.{filter-append}
use Rattle.pg_map.specs.Entries.{HasRisingIds, entries_from, with_change, with_changes}
use Rattle.pg_map.proofs.Rising.{find, at_other}

less_is : (a b : ℕ) → nat_cmp a b ≡ Less → a < b
less_is a b h = grind (arith, nat_tests)

pub is_less : (a b : ℕ) → a < b → nat_cmp a b ≡ Less
is_less a b h = grind (arith, nat_tests)

pub is_greater : (a b : ℕ) → b < a → nat_cmp a b ≡ Greater
is_greater a b h = grind (arith, nat_tests)

pub is_equal : (a : ℕ) → nat_cmp a a ≡ Equal
is_equal a = grind (arith, nat_tests)

module _ {X : Type 0} where
  -- all ids are below a number; or none is
  abbrev pub Below : ℕ → List (ℕ × X) → Type 0
  Below m es = AllByRecursion (λ e. e.0 < m) es

  abbrev pub From : ℕ → List (ℕ × X) → Type 0
  From m es = AllByRecursion (λ e. m ≤ e.0) es

  pub from_weaker : (m n : ℕ) (es : List (ℕ × X)) → m ≤ n → From n es → From m es
  from_weaker m n [] h all = tt
  from_weaker m n (e ∷ es) h all = (omega (arith, all.0), from_weaker m n es h all.1)

  -- ---- the parts of a rising list

  above_key : (k : ℕ) (es : List (ℕ × X)) → AllByRecursion (λ y. nat_cmp k y ≡ Less) (keys_of es) → From (k + 1) es
  above_key k [] all = tt
  above_key k (e ∷ es) all = (let h = less_is k e.0 all.0 in omega arith, above_key k es all.1)

  -- the ids after the first are above it
  pub above_first : (e : ℕ × X) (es : List (ℕ × X)) → HasRisingIds (e ∷ es) → From (e.0 + 1) es
  unfolding IsStrictlySortedBy
  above_first e es rising = above_key e.0 es rising.0

  pub rises_after : (e : ℕ × X) (es : List (ℕ × X)) → HasRisingIds (e ∷ es) → HasRisingIds es
  unfolding IsStrictlySortedBy
  rises_after e es rising = rising.1

  pub none_rise : (es : List (ℕ × X)) → es ≡ [] → HasRisingIds es
  unfolding IsStrictlySortedBy
  none_rise es none = subst (λ l. HasRisingIds l) (sym none) tt

  pub from_first : (e : ℕ × X) (es : List (ℕ × X)) → HasRisingIds (e ∷ es) → From e.0 (e ∷ es)
  from_first e es rising = (omega arith, from_weaker e.0 (e.0 + 1) es (omega arith) (above_first e es rising))

  all_left : (P : ℕ → Type 0) (a b : List (ℕ × X)) → AllByRecursion P (keys_of (a ++ b)) → AllByRecursion P (keys_of a)
  all_left P [] b all = tt
  all_left P (x ∷ a) b all = (all.0, all_left P a b all.1)

  pub rises_left : (a b : List (ℕ × X)) → HasRisingIds (a ++ b) → HasRisingIds a
  unfolding IsStrictlySortedBy
  rises_left [] b rising = tt
  rises_left (x ∷ a) b rising = (all_left (λ y. nat_cmp x.0 y ≡ Less) a b rising.0, rises_left a b rising.1)

  pub rises_right : (a b : List (ℕ × X)) → HasRisingIds (a ++ b) → HasRisingIds b
  rises_right [] b rising = rising
  rises_right (x ∷ a) b rising = rises_right a b (rises_after x (a ++ b) rising)

  from_middle : (m : ℕ) (a : List (ℕ × X)) (e : ℕ × X) (b : List (ℕ × X)) → From m (a ++ e ∷ b) → m ≤ e.0
  from_middle m [] e b all = all.0
  from_middle m (x ∷ a) e b all = from_middle m a e b all.1

  -- the ids before an entry are below its own
  pub below_middle : (a : List (ℕ × X)) (e : ℕ × X) (b : List (ℕ × X)) → HasRisingIds (a ++ e ∷ b) → Below e.0 a
  below_middle [] e b rising = tt
  below_middle (x ∷ a) e b rising =
      let above = from_middle (x.0 + 1) a e b (above_first x (a ++ e ∷ b) rising) in
      (omega arith, below_middle a e b (rises_after x (a ++ e ∷ b) rising))

  -- ---- look-ups

  pub none_below : (q m : ℕ) (es : List (ℕ × X)) → m ≤ q → Below m es → find q es ≡ None
  none_below q m [] h all = refl
  none_below q m (e ∷ es) h all =
      let apart : q ≡ e.0 → ⊥ = λ same. omega (arith, same, all.0) in
      ap (λ t. cond t (Some e.1) (find q es)) (at_other q e.0 apart) ∙ none_below q m es h all.1

  pub none_from : (q m : ℕ) (es : List (ℕ × X)) → q < m → From m es → find q es ≡ None
  none_from q m [] h all = refl
  none_from q m (e ∷ es) h all =
      let apart : q ≡ e.0 → ⊥ = λ same. omega (arith, same, all.0) in
      ap (λ t. cond t (Some e.1) (find q es)) (at_other q e.0 apart) ∙ none_from q m es h all.1

  pub find-left : (q : ℕ) (a b : List (ℕ × X)) → find q b ≡ None → find q (a ++ b) ≡ find q a
  find-left q [] b none = none
  find-left q (x ∷ a) b none = ap (λ o. cond (is_at (nat_cmp q) x.0) (Some x.1) o) (find-left q a b none)

  pub find-right : (q : ℕ) (a b : List (ℕ × X)) → find q a ≡ None → find q (a ++ b) ≡ find q b
  find-right q [] b none = refl
  find-right q (x ∷ a) b none = by (is_at (nat_cmp q) x.0) none (find-right q a b)
    where
      by : (t : Bool) → cond t (Some x.1) (find q a) ≡ None → (find q a ≡ None → find q (a ++ b) ≡ find q b) → cond t (Some x.1) (find q (a ++ b)) ≡ find q b
      by true n later = absurd (true≢false (ap is_some n))
      by false n later = later n

  -- ---- from an id on

  pub none_kept : (q m : ℕ) (es : List (ℕ × X)) → m ≤ q → Below m es → entries_from q es ≡ []
  none_kept q m [] h all = refl
  none_kept q m (e ∷ es) h all =
      let below : e.0 < q = omega (arith, all.0) in
      ap (λ t. cond t (e ∷ entries_from q es) (entries_from q es)) (lt-leb q e.0 below) ∙ none_kept q m es h all.1

  pub all_kept : (q m : ℕ) (es : List (ℕ × X)) → q ≤ m → From m es → entries_from q es ≡ es
  all_kept q m [] h all = refl
  all_kept q m (e ∷ es) h all =
      let above : q ≤ e.0 = omega (arith, all.0) in
      ap (λ t. cond t (e ∷ entries_from q es) (entries_from q es)) (le-leb q e.0 above) ∙ ap (λ l. e ∷ l) (all_kept q m es h all.1)

  pub from-append : (q : ℕ) (a b : List (ℕ × X)) → entries_from q (a ++ b) ≡ entries_from q a ++ entries_from q b
  from-append q a b = filter-append (λ (e : ℕ × X). leb q e.0) a b

  -- ---- one change

  abbrev put : List (ℕ × X) → ℕ → X → List (ℕ × X)
  put es k v = insert_entry nat_cmp es k v

  abbrev cut : ℕ → List (ℕ × X) → List (ℕ × X)
  cut k es = remove_entry (is_at (nat_cmp k)) es

  abbrev put_by : Ordering → (ℕ × X) → List (ℕ × X) → ℕ → X → List (ℕ × X)
  put_by r e es k v = match_ordering r ((k, v) ∷ e ∷ es) ((e.0, v) ∷ es) (e ∷ put es k v)

  put-left : (k m : ℕ) (v : X) (a b : List (ℕ × X)) → k < m → From m b → put (a ++ b) k v ≡ put a k v ++ b
  put-left k m v [] [] h all = refl
  put-left k m v [] (y ∷ b) h all = ap (λ r. put_by r y b k v) (is_less k y.0 (omega (arith, all.0)))
  put-left k m v (x ∷ a) b h all = by (nat_cmp k x.0) (put-left k m v a b h all)
    where
      by : (r : Ordering) → put (a ++ b) k v ≡ put a k v ++ b → put_by r x (a ++ b) k v ≡ put_by r x a k v ++ b
      by Less later = refl
      by Equal later = refl
      by Greater later = ap (λ l. x ∷ l) later

  put-right : (k : ℕ) (v : X) (a b : List (ℕ × X)) → Below k a → put (a ++ b) k v ≡ a ++ put b k v
  put-right k v [] b all = refl
  put-right k v (x ∷ a) b all = ap (λ r. put_by r x (a ++ b) k v) (is_greater k x.0 all.0) ∙ ap (λ l. x ∷ l) (put-right k v a b all.1)

  pub cut_none : (k m : ℕ) (es : List (ℕ × X)) → k < m → From m es → cut k es ≡ es
  cut_none k m [] h all = refl
  cut_none k m (e ∷ es) h all =
      let apart : k ≡ e.0 → ⊥ = λ same. omega (arith, same, all.0) in
      ap (λ t. cond t es (e ∷ cut k es)) (at_other k e.0 apart) ∙ ap (λ l. e ∷ l) (cut_none k m es h all.1)

  cut-left : (k m : ℕ) (a b : List (ℕ × X)) → k < m → From m b → cut k (a ++ b) ≡ cut k a ++ b
  cut-left k m [] b h all = cut_none k m b h all
  cut-left k m (x ∷ a) b h all = by (is_at (nat_cmp k) x.0) (cut-left k m a b h all)
    where
      by : (t : Bool) → cut k (a ++ b) ≡ cut k a ++ b → cond t (a ++ b) (x ∷ cut k (a ++ b)) ≡ cond t a (x ∷ cut k a) ++ b
      by true later = refl
      by false later = ap (λ l. x ∷ l) later

  cut-right : (k : ℕ) (a b : List (ℕ × X)) → Below k a → cut k (a ++ b) ≡ a ++ cut k b
  cut-right k [] b all = refl
  cut-right k (x ∷ a) b all =
      let apart : k ≡ x.0 → ⊥ = λ same. omega (arith, same, all.0) in
      ap (λ t. cond t (a ++ b) (x ∷ cut k (a ++ b))) (at_other k x.0 apart) ∙ ap (λ l. x ∷ l) (cut-right k a b all.1)

  pub change-left : (k m : ℕ) (c : Option X) (a b : List (ℕ × X)) → k < m → From m b → with_change k c (a ++ b) ≡ with_change k c a ++ b
  change-left k m None a b h all = cut-left k m a b h all
  change-left k m (Some v) a b h all = put-left k m v a b h all

  pub change-right : (k : ℕ) (c : Option X) (a b : List (ℕ × X)) → Below k a → with_change k c (a ++ b) ≡ a ++ with_change k c b
  change-right k None a b all = cut-right k a b all
  change-right k (Some v) a b all = put-right k v a b all

  below_put : (k m : ℕ) (v : X) (es : List (ℕ × X)) → k < m → Below m es → Below m (put es k v)
  below_put k m v [] h all = (h, tt)
  below_put k m v (e ∷ es) h all = by (nat_cmp k e.0) (below_put k m v es h all.1)
    where
      by : (r : Ordering) → Below m (put es k v) → Below m (put_by r e es k v)
      by Less later = (h, all)
      by Equal later = (all.0, all.1)
      by Greater later = (all.0, later)

  below_cut : (k m : ℕ) (es : List (ℕ × X)) → Below m es → Below m (cut k es)
  below_cut k m [] all = tt
  below_cut k m (e ∷ es) all = by (is_at (nat_cmp k) e.0) (below_cut k m es all.1)
    where
      by : (t : Bool) → Below m (cut k es) → Below m (cond t es (e ∷ cut k es))
      by true later = all.1
      by false later = (all.0, later)

  below_change : (k m : ℕ) (c : Option X) (es : List (ℕ × X)) → k < m → Below m es → Below m (with_change k c es)
  below_change k m None es h all = below_cut k m es all
  below_change k m (Some v) es h all = below_put k m v es h all

-- ---- all changes

module _ {X : Type 0} where
  below_key : (k m : ℕ) (es : List (ℕ × X)) → m ≤ k → Below m es → Below k es
  below_key k m [] h all = tt
  below_key k m (e ∷ es) h all = (omega (arith, all.0), below_key k m es h all.1)

  pub changes-right : (m : ℕ) (cs : List (ℕ × Option X)) (a b : List (ℕ × X)) → Below m a → From m cs → with_changes cs (a ++ b) ≡ a ++ with_changes cs b
  changes-right m [] a b below from = refl
  changes-right m (c ∷ cs) a b below from =
      ap (with_changes cs) (change-right c.0 c.1 a b (below_key c.0 m a from.0 below)) ∙ changes-right m cs a (with_change c.0 c.1 b) below from.1

  -- changes below a number fall into the entries below it, and others into the others
  pub changes_in_parts : (m : ℕ) (here later : List (ℕ × Option X)) (a b : List (ℕ × X)) → Below m here → From m later → Below m a → From m b
      → with_changes (here ++ later) (a ++ b) ≡ with_changes here a ++ with_changes later b
  changes_in_parts m [] later a b first from below above = changes-right m later a b below from
  changes_in_parts m (c ∷ here) later a b first from below above =
      ap (with_changes (here ++ later)) (change-left c.0 m c.1 a b first.0 above)
      ∙ changes_in_parts m here later (with_change c.0 c.1 a) b first.1 from (below_change c.0 m c.1 a first.0 below) above

-- ---- lists

-- what holds of each element before a place, and of each from it on
pub split_all : {X : Type 0} (P Q : X → Type 0) (xs : List X) (n : ℕ) → n ≤ length xs → ((k : ℕ) (d : X) → k < n → P (get_or xs k d))
    → ((k : ℕ) (d : X) → n ≤ k → k < length xs → Q (get_or xs k d))
    → AllByRecursion P (take n xs) × AllByRecursion Q (drop n xs)
split_all P Q [] zero within low high = (tt, tt)
split_all P Q [] (suc n) within low high = absurd (omega arith)
split_all P Q (x ∷ xs) zero within low high = (
  tt,
  (
    high 0 x (omega arith) (omega arith),
    (split_all P Q xs 0 (omega arith) (λ k d h. absurd (omega arith)) (λ k d h g. high (suc k) d (omega arith) (omega arith))).1,
  ),
)
split_all P Q (x ∷ xs) (suc n) within low high =
    let rest = split_all P Q xs n (omega arith) (λ k d h. low (suc k) d (omega arith)) (λ k d h g. high (suc k) d (omega arith) (omega arith)) in
    ((low 0 x (omega arith), rest.0), rest.1)

-- one more entry above all others
all_push : (k : ℕ) {X : Type 0} (es : List (ℕ × X)) (q : ℕ) (v : X) → AllByRecursion (λ y. nat_cmp k y ≡ Less) (keys_of es) → k < q
    → AllByRecursion (λ y. nat_cmp k y ≡ Less) (keys_of (es ++ (q, v) ∷ []))
all_push k [] q v all h = (is_less k q h, tt)
all_push k (e ∷ es) q v all h = (all.0, all_push k es q v all.1 h)

pub rises_push : {X : Type 0} (es : List (ℕ × X)) (q : ℕ) (v : X) → HasRisingIds es → Below q es → HasRisingIds (es ++ (q, v) ∷ [])
unfolding IsStrictlySortedBy
rises_push [] q v rising below = (tt, tt)
rises_push (e ∷ es) q v rising below = (all_push e.0 es q v rising.0 below.0, rises_push es q v rising.1 below.1)
