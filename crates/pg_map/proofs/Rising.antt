-- Entries by rising number: what an insertion and a removal make of them, and that look-ups tell them apart.
use Rattle.std.proofs.Common.{◌≡◌, ℕ, ◌+◌, ◌<◌, take, drop, get_or, subst, append_assoc, Bool, true, false, cond, List, [], ◌∷◌, ◌++◌, length, Option}
use Rattle.std.proofs.Common.{Some, None, Ordering, refl, sym, ap, ◌∙◌, ⊎_elim, arith}
use Rattle.std.specs.declared.cmp.Ordering.TheVariants.{Less, Equal, Greater}
use Rattle.std.specs.Ordering.{nat_cmp, match_ordering, is_eq}
use Rattle.std.specs.Cmp.{nat_cmp_total, eq_by_cmp_equiv}
use Rattle.std.specs.BTreeMap.{insert_entry, is_at}
use Rattle.std.specs.Map.{lookup, keys_of, remove_entry, values_of}
use Rattle.std.specs.List.{AllByRecursion, sum_by}
use Rattle.std.specs.List.Sorted.{IsStrictlySortedBy}
use Rattle.std.specs.Option.{unwrap_or, option_map, is_some}
use Rattle.std.proofs.lemmas.Bool.{cases_eq, true≢false}
use Rattle.std.proofs.lemmas.Bool.Decides.{nat_tests}
use Rattle.std.proofs.lemmas.List.{take_more, take-append-drop}
use Rattle.std.proofs.lemmas.List.Sums.{sum_by-cons}
use Rattle.std.proofs.lemmas.Map.{lookup-none}
use Rattle.std.proofs.lemmas.Map.Entries.{lookup_head, lookup_tail, none_past_head, none_below_head, sum_by-insert_entry, sum_by-remove_entry}
use Rattle.std.proofs.lemmas.Map.Keys.{sorted_head, sorted_tail, IsDistinct-from_sorted}
use Rattle.std.proofs.lemmas.Map.Lookups.{exact_unsigned}

pub at_same : (k : ℕ) → is_at (nat_cmp k) k ≡ true
at_same k = grind (arith, nat_tests)

pub at_other : (q k : ℕ) → (q ≡ k → ⊥) → is_at (nat_cmp q) k ≡ false
at_other q k apart = grind (arith, nat_tests)

Less-trans : (a b c : ℕ) → nat_cmp a b ≡ Less → nat_cmp b c ≡ Less → nat_cmp a c ≡ Less
Less-trans a b c h i = grind (arith, nat_tests)

Less-from_Greater : (a b : ℕ) → nat_cmp a b ≡ Greater → nat_cmp b a ≡ Less
Less-from_Greater a b h = grind (arith, nat_tests)

Greater-from_Less : (a b : ℕ) → nat_cmp a b ≡ Less → nat_cmp b a ≡ Greater
Greater-from_Less a b h = grind (arith, nat_tests)

all_below : (a b : ℕ) (ks : List ℕ) → nat_cmp a b ≡ Less → AllByRecursion (λ y. nat_cmp b y ≡ Less) ks → AllByRecursion (λ y. nat_cmp a y ≡ Less) ks
all_below a b [] h all = tt
all_below a b (k ∷ ks) h all = (Less-trans a b k h all.0, all_below a b ks h all.1)

module _ {X : Type 0} where
  abbrev pub find : ℕ → List (ℕ × X) → Option X
  find k es = lookup (is_at (nat_cmp k)) es

  abbrev pub Rises : List (ℕ × X) → Type 0
  Rises es = IsStrictlySortedBy nat_cmp (keys_of es)

  abbrev put : List (ℕ × X) → ℕ → X → List (ℕ × X)
  put es k v = insert_entry nat_cmp es k v

  abbrev cut : ℕ → List (ℕ × X) → List (ℕ × X)
  cut k es = remove_entry (is_at (nat_cmp k)) es

  -- what `insert_entry` makes of a first entry and of the others, by how the keys compare
  abbrev put_by : Ordering → (ℕ × X) → List (ℕ × X) → ℕ → X → List (ℕ × X)
  put_by r e es k v = match_ordering r ((k, v) ∷ e ∷ es) ((e.0, v) ∷ es) (e ∷ put es k v)

  -- ---- the last key

  below_head : (k : ℕ) (xs : List (ℕ × X)) (e : ℕ × X) (ys : List (ℕ × X)) → AllByRecursion (λ y. nat_cmp k y ≡ Less) (keys_of (xs ++ e ∷ ys))
      → nat_cmp e.0 k ≡ Greater
  below_head k [] e ys h = Greater-from_Less k e.0 h.0
  below_head k (x ∷ xs) e ys h = below_head k xs e ys h.1

  -- a key above all others goes to the end
  pub insert_entry-last : (xs : List (ℕ × X)) (e : ℕ × X) (ys : List (ℕ × X)) → Rises (xs ++ e ∷ ys) → insert_entry nat_cmp xs e.0 e.1 ≡ xs ++ e ∷ []
  insert_entry-last [] e ys rising = refl
  insert_entry-last (x ∷ xs) e ys rising =
      let above = below_head x.0 xs e ys (sorted_head nat_cmp x.0 (keys_of (xs ++ e ∷ ys)) rising) in
      let later = insert_entry-last xs e ys (sorted_tail nat_cmp x.0 (keys_of (xs ++ e ∷ ys)) rising) in
      ap (λ r. put_by r x xs e.0 e.1) above ∙ ap (λ l. x ∷ l) later

  -- the next entry goes to the end of those that are put already
  pub next_put : (all done done' remaining remaining' : List (ℕ × X)) (k : ℕ) (v v' : X) → Rises all → done ++ remaining ≡ all → remaining ≡ (k, v) ∷ remaining' → v' ≡ v
      → done' ≡ insert_entry nat_cmp done k v' → done' ++ remaining' ≡ all
  next_put all done done' remaining remaining' k v v' rising so_far next same put =
      let whole : done ++ (k, v) ∷ remaining' ≡ all = ap (λ l. done ++ l) (sym next) ∙ so_far in
      let last = insert_entry-last done (k, v) remaining' (subst Rises (sym whole) rising) in
      ap (λ l. l ++ remaining') (put ∙ ap (λ x. insert_entry nat_cmp done k x) same ∙ last) ∙ append_assoc done ((k, v) ∷ []) remaining' ∙ whole

  -- the next entry goes to the end of those before it
  pub insert_entry-take : (es : List (ℕ × X)) (i : ℕ) (e : ℕ × X) → Rises es → i < length es → e ≡ get_or es i e
      → insert_entry nat_cmp (take i es) e.0 e.1 ≡ take (i + 1) es
  insert_entry-take es i e rising within here =
      let more : take (i + 1) es ≡ take i es ++ e ∷ [] = take_more es i e within ∙ ap (λ x. take i es ++ x ∷ []) (sym here) in
      let whole : (take i es ++ e ∷ []) ++ drop (i + 1) es ≡ es = ap (λ l. l ++ drop (i + 1) es) (sym more) ∙ take-append-drop (i + 1) es in
      let joined = append_assoc (take i es) (e ∷ []) (drop (i + 1) es) in
      insert_entry-last (take i es) e (drop (i + 1) es) (subst Rises (sym whole ∙ joined) rising) ∙ sym more

  -- ---- look-ups

  pub find-insert_same : (es : List (ℕ × X)) (k : ℕ) (v : X) → find k (insert_entry nat_cmp es k v) ≡ Some v
  find-insert_same [] k v = lookup_head (is_at (nat_cmp k)) (k, v) [] (at_same k)
  find-insert_same (e ∷ es) k v = by (nat_cmp k e.0) refl (find-insert_same es k v)
    where
      by : (r : Ordering) → nat_cmp k e.0 ≡ r → find k (put es k v) ≡ Some v → find k (put_by r e es k v) ≡ Some v
      by Less p later = lookup_head (is_at (nat_cmp k)) (k, v) (e ∷ es) (at_same k)
      by Equal p later = lookup_head (is_at (nat_cmp k)) (e.0, v) es (ap is_eq p)
      by Greater p later = lookup_tail (is_at (nat_cmp k)) e (put es k v) (ap is_eq p) ∙ later

  pub find-insert_other : (es : List (ℕ × X)) (k : ℕ) (v : X) (q : ℕ) → (q ≡ k → ⊥) → find q (insert_entry nat_cmp es k v) ≡ find q es
  find-insert_other [] k v q apart = lookup_tail (is_at (nat_cmp q)) (k, v) [] (at_other q k apart)
  find-insert_other (e ∷ es) k v q apart = by (nat_cmp k e.0) refl (find-insert_other es k v q apart)
    where
      by : (r : Ordering) → nat_cmp k e.0 ≡ r → find q (put es k v) ≡ find q es → find q (put_by r e es k v) ≡ find q (e ∷ es)
      by Less p later = lookup_tail (is_at (nat_cmp q)) (k, v) (e ∷ es) (at_other q k apart)
      by Equal p later =
          let past = at_other q e.0 (λ s. apart (s ∙ sym (exact_unsigned k e.0 p))) in
          lookup_tail (is_at (nat_cmp q)) (e.0, v) es past ∙ sym (lookup_tail (is_at (nat_cmp q)) e es past)
      by Greater p later = ap (λ o. cond (is_at (nat_cmp q) e.0) (Some e.1) o) later

  -- no later key is equal to the first
  pub none_past : (k : ℕ) (e : ℕ × X) (es : List (ℕ × X)) → Rises (e ∷ es) → is_at (nat_cmp k) e.0 ≡ true → find k es ≡ None
  none_past k e es rising here =
      lookup-none (is_at (nat_cmp k)) es
      (none_past_head (eq_by_cmp_equiv nat_cmp_total) k e es (IsDistinct-from_sorted nat_cmp (keys_of (e ∷ es)) rising) here)

  pub find-remove_same : (es : List (ℕ × X)) (k : ℕ) → Rises es → find k (remove_entry (is_at (nat_cmp k)) es) ≡ None
  find-remove_same [] k rising = refl
  find-remove_same (e ∷ es) k rising = by (is_at (nat_cmp k) e.0) refl (find-remove_same es k (sorted_tail nat_cmp e.0 (keys_of es) rising))
    where
      by : (b : Bool) → is_at (nat_cmp k) e.0 ≡ b → find k (cut k es) ≡ None → find k (cond b es (e ∷ cut k es)) ≡ None
      by true p later = none_past k e es rising p
      by false p later = lookup_tail (is_at (nat_cmp k)) e (cut k es) p ∙ later

  pub find-remove_other : (es : List (ℕ × X)) (k q : ℕ) → (q ≡ k → ⊥) → find q (remove_entry (is_at (nat_cmp k)) es) ≡ find q es
  find-remove_other [] k q apart = refl
  find-remove_other (e ∷ es) k q apart = by (is_at (nat_cmp k) e.0) refl (find-remove_other es k q apart)
    where
      by : (b : Bool) → is_at (nat_cmp k) e.0 ≡ b → find q (cut k es) ≡ find q es → find q (cond b es (e ∷ cut k es)) ≡ find q (e ∷ es)
      by true p later = let same : k ≡ e.0 = grind (arith, nat_tests) in
          sym (lookup_tail (is_at (nat_cmp q)) e es (at_other q e.0 (λ s. apart (s ∙ sym same))))
      by false p later = ap (λ o. cond (is_at (nat_cmp q) e.0) (Some e.1) o) later

  -- ---- the keys rise

  all-insert : (P : ℕ → Type 0) (es : List (ℕ × X)) (k : ℕ) (v : X) → AllByRecursion P (keys_of es) → P k
      → AllByRecursion P (keys_of (insert_entry nat_cmp es k v))
  all-insert P [] k v all here = (here, tt)
  all-insert P (e ∷ es) k v all here = by (nat_cmp k e.0) (all-insert P es k v all.1 here)
    where
      by : (r : Ordering) → AllByRecursion P (keys_of (put es k v)) → AllByRecursion P (keys_of (put_by r e es k v))
      by Less later = (here, all)
      by Equal later = all
      by Greater later = (all.0, later)

  pub rises-insert : (es : List (ℕ × X)) (k : ℕ) (v : X) → Rises es → Rises (insert_entry nat_cmp es k v)
  unfolding IsStrictlySortedBy
  rises-insert [] k v rising = (tt, tt)
  rises-insert (e ∷ es) k v rising = by (nat_cmp k e.0) refl (rises-insert es k v rising.1)
    where
      by : (r : Ordering) → nat_cmp k e.0 ≡ r → Rises (put es k v) → Rises (put_by r e es k v)
      by Less p later = ((p, all_below k e.0 (keys_of es) p rising.0), rising)
      by Equal p later = rising
      by Greater p later = (all-insert (λ y. nat_cmp e.0 y ≡ Less) es k v rising.0 (Less-from_Greater k e.0 p), later)

  all-remove : (P : ℕ → Type 0) (k : ℕ) (es : List (ℕ × X)) → AllByRecursion P (keys_of es) → AllByRecursion P (keys_of (remove_entry (is_at (nat_cmp k)) es))
  all-remove P k [] all = tt
  all-remove P k (e ∷ es) all = by (is_at (nat_cmp k) e.0) (all-remove P k es all.1)
    where
      by : (b : Bool) → AllByRecursion P (keys_of (cut k es)) → AllByRecursion P (keys_of (cond b es (e ∷ cut k es)))
      by true later = all.1
      by false later = (all.0, later)

  pub rises-remove : (k : ℕ) (es : List (ℕ × X)) → Rises es → Rises (remove_entry (is_at (nat_cmp k)) es)
  unfolding IsStrictlySortedBy
  rises-remove k [] rising = tt
  rises-remove k (e ∷ es) rising = by (is_at (nat_cmp k) e.0) (rises-remove k es rising.1)
    where
      by : (b : Bool) → Rises (cut k es) → Rises (cond b es (e ∷ cut k es))
      by true later = rising.1
      by false later = (all-remove (λ y. nat_cmp e.0 y ≡ Less) k es rising.0, later)

  -- ---- equal look-ups give equal entries

  not_None : (v : X) → Some v ≡ None → ⊥
  not_None v e = true≢false (ap is_some e)

  at_head : (x : ℕ × X) (xs : List (ℕ × X)) → find x.0 (x ∷ xs) ≡ Some x.1
  at_head x xs = lookup_head (is_at (nat_cmp x.0)) x xs (at_same x.0)

  module _ (x y : ℕ × X) (xs ys : List (ℕ × X)) (s : Rises (x ∷ xs)) (t : Rises (y ∷ ys)) (h : (q : ℕ) → find q (x ∷ xs) ≡ find q (y ∷ ys)) where
    heads : (r : Ordering) → nat_cmp x.0 y.0 ≡ r → x.0 ≡ y.0
    heads Less p = absurd (not_None x.1 (sym (at_head x xs) ∙ h x.0 ∙ lookup-none _ (y ∷ ys) (none_below_head nat_cmp_total x.0 y ys t p)))
    heads Equal p = exact_unsigned x.0 y.0 p
    heads Greater p = absurd
        (not_None y.1 (sym (at_head y ys) ∙ sym (h y.0) ∙ lookup-none _ (x ∷ xs) (none_below_head nat_cmp_total y.0 x xs s (Less-from_Greater x.0 y.0 p))))

    same_keys : x.0 ≡ y.0
    same_keys = heads (nat_cmp x.0 y.0) refl

    same_values : x.1 ≡ y.1
    same_values = ap (λ o. unwrap_or o x.1) (sym (at_head x xs) ∙ h x.0 ∙ ap (λ k. find k (y ∷ ys)) same_keys ∙ at_head y ys)

    tails : (q : ℕ) → find q xs ≡ find q ys
    tails q =
        ⊎_elim
        (λ (e : q ≡ x.0). none_past q x xs s (ap (λ k. is_at (nat_cmp k) x.0) e ∙ at_same x.0)
        ∙ sym (none_past q y ys t (ap (λ k. is_at (nat_cmp k) y.0) (e ∙ same_keys) ∙ at_same y.0)))
        (λ (n : q ≡ x.0 → ⊥). sym (lookup_tail (is_at (nat_cmp q)) x xs (at_other q x.0 n)) ∙ h q
        ∙ lookup_tail (is_at (nat_cmp q)) y ys (at_other q y.0 (λ e. n (e ∙ sym same_keys))))
        (cases_eq q x.0)

  pub same_entries : (es fs : List (ℕ × X)) → Rises es → Rises fs → ((q : ℕ) → find q es ≡ find q fs) → es ≡ fs
  same_entries [] [] s t h = refl
  same_entries [] (y ∷ ys) s t h = absurd (not_None y.1 (sym (h y.0 ∙ at_head y ys)))
  same_entries (x ∷ xs) [] s t h = absurd (not_None x.1 (sym (at_head x xs) ∙ h x.0))
  same_entries (x ∷ xs) (y ∷ ys) s t h =
      let later = same_entries xs ys (sorted_tail nat_cmp x.0 (keys_of xs) s) (sorted_tail nat_cmp y.0 (keys_of ys) t) (tails x y xs ys s t h) in
      λ i. (same_keys x y xs ys s t h i, same_values x y xs ys s t h i) ∷ later i

  -- ---- how many

  pub length-insert_absent : (es : List (ℕ × X)) (k : ℕ) (v : X) → find k es ≡ None → length (insert_entry nat_cmp es k v) ≡ length es + 1
  length-insert_absent [] k v none = refl
  length-insert_absent (e ∷ es) k v none = by (nat_cmp k e.0) refl (length-insert_absent es k v)
    where
      by : (r : Ordering) → nat_cmp k e.0 ≡ r → (find k es ≡ None → length (put es k v) ≡ length es + 1) → length (put_by r e es k v) ≡ length (e ∷ es) + 1
      by Less p later = omega arith
      by Equal p later = absurd (not_None e.1 (sym (lookup_head (is_at (nat_cmp k)) e es (ap is_eq p)) ∙ none))
      by Greater p later = omega (arith, later (sym (lookup_tail (is_at (nat_cmp k)) e es (ap is_eq p)) ∙ none))

  pub length-insert_present : (es : List (ℕ × X)) (k : ℕ) (u v : X) → Rises es → find k es ≡ Some u → length (insert_entry nat_cmp es k v) ≡ length es
  length-insert_present [] k u v rising some = absurd (not_None u (sym some))
  length-insert_present (e ∷ es) k u v rising some = by (nat_cmp k e.0) refl (length-insert_present es k u v (sorted_tail nat_cmp e.0 (keys_of es) rising))
    where
      by : (r : Ordering) → nat_cmp k e.0 ≡ r → (find k es ≡ Some u → length (put es k v) ≡ length es) → length (put_by r e es k v) ≡ length (e ∷ es)
      by Less p later = absurd (not_None u (sym some ∙ lookup-none _ (e ∷ es) (none_below_head nat_cmp_total k e es rising p)))
      by Equal p later = refl
      by Greater p later = omega (arith, later (sym (lookup_tail (is_at (nat_cmp k)) e es (ap is_eq p)) ∙ some))

  pub length-remove_present : (es : List (ℕ × X)) (k : ℕ) (u : X) → find k es ≡ Some u → length (remove_entry (is_at (nat_cmp k)) es) + 1 ≡ length es
  length-remove_present [] k u some = absurd (not_None u (sym some))
  length-remove_present (e ∷ es) k u some = by (is_at (nat_cmp k) e.0) refl (length-remove_present es k u)
    where
      by : (b : Bool) → is_at (nat_cmp k) e.0 ≡ b → (find k es ≡ Some u → length (cut k es) + 1 ≡ length es)
          → length (cond b es (e ∷ cut k es)) + 1 ≡ length (e ∷ es)
      by true p later = omega arith
      by false p later = omega (arith, later (sym (lookup_tail (is_at (nat_cmp k)) e es p) ∙ some))

  -- ---- a sum over the values, where f weighs a value

  module _ (f : X → ℕ) where
    by_values : (es : List (ℕ × X)) → sum_by (λ e. f e.1) es ≡ sum_by f (values_of es)
    by_values [] = refl
    by_values (e ∷ es) = sum_by-cons (λ x. f x.1) e es ∙ ap (λ n. f e.1 + n) (by_values es) ∙ sym (sum_by-cons f e.1 (values_of es))

    pub sum-insert : (es : List (ℕ × X)) (k : ℕ) (v : X) → Rises es
        → sum_by (λ e. f e.1) (insert_entry nat_cmp es k v) + unwrap_or (option_map f (find k es)) 0 ≡ sum_by (λ e. f e.1) es + f v
    sum-insert es k v rising = omega (arith, by_values es, by_values (put es k v), sum_by-insert_entry f nat_cmp_total es k v rising)

    pub sum-remove : (es : List (ℕ × X)) (k : ℕ)
        → sum_by (λ e. f e.1) (remove_entry (is_at (nat_cmp k)) es) + unwrap_or (option_map f (find k es)) 0 ≡ sum_by (λ e. f e.1) es
    sum-remove es k = omega (arith, by_values es, by_values (cut k es), sum_by-remove_entry f (is_at (nat_cmp k)) es)
