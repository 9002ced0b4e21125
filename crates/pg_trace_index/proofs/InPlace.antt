-- Notes that are made in place, one after another, and records that are put in the superstep that comes next.
use Rattle.std.proofs.Common.{◌≡◌, ℕ, suc, ◌+◌, ◌-◌, ◌<◌, ◌≤◌, ◌==◌, ◌≢◌, ◌⊎◌, inl, inr, true, false}
use Rattle.std.proofs.Common.{cond, List, [], ◌∷◌, ◌++◌, length, get_or, set, take, drop, Option, None, Some, is_some}
use Rattle.std.proofs.Common.{unwrap_or, refl, sym, ap, ◌∙◌, subst, ⊎_elim, append_assoc, arith, ltb, eq-eqb}
use Rattle.std.specs.BTreeMap.{insert_entry, is_at}
use Rattle.std.specs.List.{AllByRecursion, filter}
use Rattle.std.specs.List.Sorted.{IsNonDecreasingBy}
use Rattle.std.specs.Map.{keys_of}
use Rattle.std.specs.Ordering.{nat_cmp}
use Rattle.std.specs.declared.cmp.Ordering.TheVariants.{Less}
use Rattle.std.proofs.lemmas.Bool.{cases_eq}
use Rattle.std.proofs.lemmas.Bool.Decides.{eqb_tells, nat_tests}
use Rattle.std.proofs.lemmas.List.{append-nil, get_or_default, take_more, take-append-drop}
use Rattle.std.proofs.lemmas.Map.Entries.{lookup_tail}
use Rattle.std.proofs.lemmas.Map.Keys.{sorted_head, sorted_tail}
use Rattle.pg_map.specs.Entries.{ChangesRise, HasRisingIds, value_at, with_changes}
use Rattle.pg_map.proofs.Changing.{value_at-with_changes}
use Rattle.pg_map.proofs.Rising.{at_other, at_same, find-insert_other, find-insert_same, insert_entry-take}
use Rattle.pg_trace_index.specs.Occurrences.{IsIndex, IsNoted, IsNotedOf, last_of, steps_in, steps_noted, with_ran}
use Rattle.pg_trace_index.specs.Records.{put_at}
use Rattle.pg_trace_index.proofs.Noting.{TellsAlike, index-next, index-set}
use Rattle.pg_map.proofs.Somes.{nothing_rises}
use Rattle.pg_trace_index.proofs.Supersteps.{last_of_all, lower, not_lower}

-- ---- a superstep after all others

all_below : (s : ℕ) (steps : List ℕ) → ((k : ℕ) → k < length steps → get_or steps k 0 < s)
    → (filter (λ t. ltb t s) steps ≡ steps) × (filter (λ t. ltb s t) steps ≡ [])
all_below s [] low = (refl, refl)
all_below s (t ∷ steps) low =
    let first : t < s = low 0 (omega arith) in
    let later = all_below s steps (λ k within. low (suc k) (omega arith)) in (
      ap (λ c. cond c (t ∷ filter (λ t. ltb t s) steps) (filter (λ t. ltb t s) steps)) (lower t s first) ∙ ap (λ l. t ∷ l) later.0,
      ap (λ c. cond c (t ∷ filter (λ t. ltb s t) steps) (filter (λ t. ltb s t) steps)) (not_lower s t (omega arith)) ∙ later.1,
    )

pub last_of-push : (steps : List ℕ) (s : ℕ) → last_of (steps ++ s ∷ []) ≡ Some s
last_of-push [] s = refl
last_of-push (t ∷ steps) s = ap (λ o. Some (unwrap_or o t)) (last_of-push steps s)

-- where the last of rising supersteps is below one, all are
pub below_the_last : (s t : ℕ) (steps : List ℕ) → IsNonDecreasingBy (λ t. t) steps → Some t ≡ last_of steps → t < s
    → (k : ℕ) → k < length steps → get_or steps k 0 < s
below_the_last s t steps rises last low k within =
    let m = length steps - 1 in
    let some : suc m ≡ length steps = omega (arith) in
    let at : t ≡ get_or steps m 0 = ap (λ o. unwrap_or o 0) (last ∙ sym (last_of_all steps m some)) in
    let up : get_or steps k 0 ≤ get_or steps m 0 = rises k m 0 (omega arith) (omega arith) in
    omega arith

-- and it is the last of those below
pub last_of_below : (s t : ℕ) (steps : List ℕ) → ((k : ℕ) → k < length steps → get_or steps k 0 < s) → Some t ≡ last_of steps
    → Some t ≡ last_of (filter (λ t. ltb t s) steps)
last_of_below s t steps low last = last ∙ sym (ap last_of (all_below s steps low).0)

pub ran_last : (s : ℕ) (steps : List ℕ) → ((k : ℕ) → k < length steps → get_or steps k 0 < s) → with_ran s true steps ≡ steps ++ s ∷ []
ran_last s steps low =
    let below = all_below s steps low in
    ap (λ l. l ++ s ∷ [] ++ filter (λ t. ltb s t) steps) below.0 ∙ ap (λ l. steps ++ s ∷ [] ++ l) below.1 ∙ append-nil (steps ++ s ∷ [])

-- ---- one note after another

backwards : (a b : ℕ) → nat_cmp a b ≡ Less → is_at (nat_cmp b) a ≡ false
backwards a b h = grind (arith, nat_tests)

module _ {Y : Type 0} where
  below_next : (k : ℕ) (xs : List (ℕ × Y)) (e : ℕ × Y) (ys : List (ℕ × Y)) → AllByRecursion (λ y. nat_cmp k y ≡ Less) (keys_of (xs ++ e ∷ ys))
      → nat_cmp k e.0 ≡ Less
  below_next k [] e ys h = h.0
  below_next k (x ∷ xs) e ys h = below_next k xs e ys h.1

  none_before : (xs : List (ℕ × Y)) (e : ℕ × Y) (ys : List (ℕ × Y)) → HasRisingIds (xs ++ e ∷ ys) → value_at e.0 xs ≡ None
  none_before [] e ys rising = refl
  none_before (x ∷ xs) e ys rising =
      let first = below_next x.0 xs e ys (sorted_head nat_cmp x.0 (keys_of (xs ++ e ∷ ys)) rising) in
      lookup_tail (is_at (nat_cmp e.0)) x xs (backwards x.0 e.0 first) ∙ none_before xs e ys (sorted_tail nat_cmp x.0 (keys_of (xs ++ e ∷ ys)) rising)

  none_at : (es : List (ℕ × Y)) (i : ℕ) (e : ℕ × Y) → HasRisingIds es → i < length es → e ≡ get_or es i e → value_at e.0 (take i es) ≡ None
  none_at es i e rising within here =
      let more : take (i + 1) es ≡ take i es ++ e ∷ [] = take_more es i e within ∙ ap (λ x. take i es ++ x ∷ []) (sym here) in
      let whole : (take i es ++ e ∷ []) ++ drop (i + 1) es ≡ es = ap (λ l. l ++ drop (i + 1) es) (sym more) ∙ take-append-drop (i + 1) es in
      none_before (take i es) e (drop (i + 1) es) (subst (λ l. HasRisingIds l) (sym whole ∙ append_assoc (take i es) (e ∷ []) (drop (i + 1) es)) rising)

-- what an index has of an id after a note of another, or of itself
abbrev noted_at : {Y : Type 0} → ℕ → ℕ × Option Y → List (ℕ × List ℕ) → ℕ → List ℕ
noted_at s e now k = cond (is_at (nat_cmp e.0) k) (with_ran s (is_some e.1) (steps_in (value_at e.0 now))) (steps_in (value_at k now))

module _ {Y : Type 0} (s : ℕ) (given : List (ℕ × Option Y)) (i : ℕ) (e : ℕ × Option Y) (ran now : List (ℕ × List ℕ))
    (rise : ChangesRise given) (within : i < length given) (here : e ≡ get_or given i e) (overlay : IsNoted s (take i given) ran now) where
  -- of the next id nothing was noted so far
  pub unsaid : steps_in (value_at e.0 now) ≡ steps_in (value_at e.0 ran)
  unsaid = overlay e.0 ∙ ap (λ o. steps_noted s o (steps_in (value_at e.0 ran))) (none_at given i e rise within here)

  pub noted_more : (next : List (ℕ × List ℕ)) → IsNotedOf e.0 s (is_some e.1) now next → IsNoted s (take (i + 1) given) ran next
  noted_more next more q = more q ∙ ⊎_elim same other (cases_eq q e.0)
    where
      put : insert_entry nat_cmp (take i given) e.0 e.1 ≡ take (i + 1) given
      put = insert_entry-take given i e rise within here

      stated : value_at e.0 (take (i + 1) given) ≡ Some e.1
      stated = ap (value_at e.0) (sym put) ∙ find-insert_same (take i given) e.0 e.1

      at_itself : noted_at s e now e.0 ≡ steps_noted s (value_at e.0 (take (i + 1) given)) (steps_in (value_at e.0 ran))
      at_itself =
          ap (λ b. cond b (with_ran s (is_some e.1) (steps_in (value_at e.0 now))) (steps_in (value_at e.0 now))) (at_same e.0)
          ∙ ap (with_ran s (is_some e.1)) unsaid ∙ sym (ap (λ o. steps_noted s o (steps_in (value_at e.0 ran))) stated)

      same : q ≡ e.0 → noted_at s e now q ≡ steps_noted s (value_at q (take (i + 1) given)) (steps_in (value_at q ran))
      same is = subst (λ k. noted_at s e now k ≡ steps_noted s (value_at k (take (i + 1) given)) (steps_in (value_at k ran))) (sym is) at_itself

      other : (q ≡ e.0 → ⊥) → noted_at s e now q ≡ steps_noted s (value_at q (take (i + 1) given)) (steps_in (value_at q ran))
      other apart =
          ap (λ b. cond b (with_ran s (is_some e.1) (steps_in (value_at e.0 now))) (steps_in (value_at q now))) (at_other e.0 q (λ is. apart (sym is)))
          ∙ overlay q
          ∙ ap (λ o. steps_noted s o (steps_in (value_at q ran))) (sym (ap (value_at q) (sym put) ∙ find-insert_other (take i given) e.0 e.1 q apart))

-- ---- the records of a superstep that a run has or that comes next

module _ {Y : Type 0} where
  set_last : (ys : List Y) (y z : Y) → set (ys ++ y ∷ []) (length ys) z ≡ ys ++ z ∷ []
  set_last [] y z = refl
  set_last (x ∷ ys) y z = ap (λ l. x ∷ l) (set_last ys y z)

  pub get_last : (ys : List Y) (y d : Y) → get_or (ys ++ y ∷ []) (length ys) d ≡ y
  get_last [] y d = refl
  get_last (x ∷ ys) y d = get_last ys y d

module _ {X : Type 0} where
  abbrev put_in : ℕ → List (ℕ × Option X) → List (List (ℕ × X)) → List (List (ℕ × X))
  put_in n given rs = set rs n (with_changes given (get_or rs n []))

  pub put-next : (rs : List (List (ℕ × X))) (n : ℕ) (given : List (ℕ × Option X)) → n ≡ length rs → put_at n given rs ≡ rs ++ with_changes given [] ∷ []
  put-next rs n given here =
      ap (λ k. put_at k given rs) here
      ∙ ap (λ b. put_in (length rs) given (cond b (rs ++ [] ∷ []) rs)) (eq-eqb (length rs) (length rs) refl)
      ∙ ap (λ r. set (rs ++ [] ∷ []) (length rs) (with_changes given r)) (get_last rs [] [])
      ∙ set_last rs [] (with_changes given [])

  pub put-there : (rs : List (List (ℕ × X))) (n : ℕ) (given : List (ℕ × Option X)) → n < length rs
      → put_at n given rs ≡ set rs n (with_changes given (get_or rs n []))
  put-there rs n given within = by (eqb_tells (length rs) n)
    where
      by : ((length rs == n) ≡ true) × (length rs ≡ n) ⊎ ((length rs == n) ≡ false) × (length rs ≢ n)
          → put_at n given rs ≡ put_in n given rs
      by (inl same) = let e = same.1 in absurd (omega (arith, within, e))
      by (inr other) = ap (λ b. put_in n given (cond b (rs ++ [] ∷ []) rs)) other.0

module _ {X Y : Type 0} where
  pub index-put : (rs : List (List (ℕ × X))) (n : ℕ) (given : List (ℕ × Option Y)) (changes : List (ℕ × Option X)) (ran ran' : List (ℕ × List ℕ))
      → n ≤ length rs → ChangesRise changes → HasRisingIds (get_or rs n []) → TellsAlike given changes
      → IsIndex rs ran → IsNoted n given ran ran' → IsIndex (put_at n changes rs) ran'
  index-put rs n given changes ran ran' within rise rising alike index overlay = by (eqb_tells n (length rs))
    where
      by : ((n == length rs) ≡ true) × (n ≡ length rs) ⊎ ((n == length rs) ≡ false) × (n ≢ length rs) → IsIndex (put_at n changes rs) ran'
      by (inl same) =
          subst (λ l. IsIndex l ran') (sym (put-next rs n changes same.1))
          (index-next rs (with_changes changes []) given changes ran ran' alike (λ id. value_at-with_changes changes [] id rise (nothing_rises X)) index
          (subst (λ k. IsNoted k given ran ran') same.1 overlay))
      by (inr other) =
          let low : n < length rs = let e = other.1 in omega (arith, within, e) in
          subst (λ l. IsIndex l ran') (sym (put-there rs n changes low))
          (index-set rs n (get_or rs n []) (with_changes changes (get_or rs n [])) given changes ran ran' low
          (sym (get_or_default rs n (get_or rs n []) [] low)) rising rise alike refl index overlay)
