-- The runs of vertices in a log, as it grows and as they are gone through from the last one back.
use Rattle.std.proofs.Common.{◌≡◌, ◌≢◌, ◌⊎◌, inl, inr, ℕ, zero, suc, ◌-◌, ◌<◌, ◌≤◌, ◌==◌, Bool, true, false, cond, List, [], ◌∷◌, ◌++◌, length, get_or}
use Rattle.std.proofs.Common.{map, reverse, ltb, None, Some, option_map, refl, sym, ap, ◌∙◌, subst, ⊎_elim, arith}
use Rattle.std.specs.BTreeMap.{insert_entry, is_at}
use Rattle.std.specs.List.{filter}
use Rattle.std.specs.List.Sorted.{IsNonDecreasingBy, IsStrictlySortedBy}
use Rattle.std.specs.Ordering.{nat_cmp, match_ordering}
use Rattle.std.specs.declared.cmp.Ordering.{Ordering}
use Rattle.std.specs.declared.cmp.Ordering.TheVariants.{Less, Equal, Greater}
use Rattle.std.proofs.lemmas.Bool.{cases_eq}
use Rattle.std.proofs.lemmas.Bool.Decides.{eqb_tells, nat_tests}
use Rattle.std.proofs.lemmas.List.{append-nil, get_or_append_left, get_or_default, length-append, map-append, reverse-append}
use Rattle.std.proofs.lemmas.List.Elements.{filter-append}
use Rattle.std.proofs.lemmas.Map.Made.{keys_of-map_values, lookup-map_values}
use Rattle.pg_map.specs.Entries.{HasRisingIds, value_at}
use Rattle.pg_map.proofs.Rising.{at_other, at_same, find-insert_other, find-insert_same}
use Rattle.pg_trace_index.specs.LogEntry.{AreWithin, back, chain, chains, first_below, no_run}
use Rattle.pg_trace_index.specs.Occurrences.{IsNotedOf, last_of, steps_below, steps_in, with_ran}
use Rattle.pg_trace_index.specs.declared.log.LogEntry.{LogEntry}
use Rattle.pg_trace_index.proofs.InPlace.{below_the_last, get_last, last_of-push, ran_last}
use Rattle.pg_trace_index.proofs.Supersteps.{lower, not_lower}

pub reverse_next : {X : Type 0} (x : X) (xs : List X) → reverse (x ∷ xs) ≡ reverse xs ++ x ∷ []
reverse_next x xs = reverse-append (x ∷ []) xs

pub map-reverse : {X Y : Type 0} (f : X → Y) (xs : List X) → map f (reverse xs) ≡ reverse (map f xs)
map-reverse f [] = refl
map-reverse f (x ∷ xs) =
    ap (map f) (reverse_next x xs) ∙ map-append f (reverse xs) (x ∷ []) ∙ ap (λ l. l ++ f x ∷ []) (map-reverse f xs) ∙ sym (reverse_next (f x) (map f xs))

-- ---- back from an entry

module _ (log : List LogEntry) where
  pub back_none : (n : ℕ) → back log n 0 ≡ []
  back_none zero = refl
  back_none (suc n) =
      let entry = get_or log n no_run in
      let other : (0 == suc n) ≡ false = grind (arith, nat_tests) in
      ap (λ b. cond b (entry.run.superstep ∷ back log n entry.before) (back log n 0)) other ∙ back_none n

  pub back_past : (n at : ℕ) → n < at → back log n at ≡ []
  back_past zero at h = refl
  back_past (suc n) at h =
      let entry = get_or log n no_run in
      let other : (at == suc n) ≡ false = grind (arith, nat_tests) in
      ap (λ b. cond b (entry.run.superstep ∷ back log n entry.before) (back log n at)) other ∙ back_past n at (omega arith)

  -- from entry k to those before it
  abbrev from : ℕ → LogEntry → List ℕ
  from k entry = entry.run.superstep ∷ back log k entry.before

  pub back_at : (n k : ℕ) (d : LogEntry) → k < n → n ≤ length log
      → back log n (suc k) ≡ (get_or log k d).run.superstep ∷ back log k (get_or log k d).before
  back_at zero k d h within = absurd (omega arith)
  back_at (suc n) k d h within =
      by (eqb_tells (suc k) (suc n)) (λ (lower : k < n). back_at n k d lower (omega arith))
    where
      by : ((suc k == suc n) ≡ true) × (suc k ≡ suc n) ⊎ ((suc k == suc n) ≡ false) × (suc k ≢ suc n)
          → ((k < n) → back log n (suc k) ≡ from k (get_or log k d))
          → cond (suc k == suc n) (from n (get_or log n no_run)) (back log n (suc k)) ≡ from k (get_or log k d)
      by (inl same) later =
          let e = same.1 in
          let here : n ≡ k = omega (arith, e) in
          ap (λ b. cond b (from n (get_or log n no_run)) (back log n (suc k))) same.0
          ∙ ap (from n) (get_or_default log n no_run d (omega (arith, within))) ∙ ap (λ m. from m (get_or log m d)) here
      by (inr other) later =
          let e = other.1 in
          ap (λ b. cond b (from n (get_or log n no_run)) (back log n (suc k))) other.0 ∙ later (omega (arith, h, e))

module _ (log : List LogEntry) where
  -- an entry more behind the others changes nothing before
  pub back_more : (e : LogEntry) (n at : ℕ) → n ≤ length log → back (log ++ e ∷ []) n at ≡ back log n at
  back_more e zero at within = refl
  back_more e (suc n) at within =
      let entry = get_or log n no_run in
      ap (λ (x : LogEntry). cond (at == suc n) (x.run.superstep ∷ back (log ++ e ∷ []) n x.before) (back (log ++ e ∷ []) n at))
      (get_or_append_left log (e ∷ []) no_run n (omega arith))
      ∙ ap (λ l. cond (at == suc n) (entry.run.superstep ∷ l) (back (log ++ e ∷ []) n at)) (back_more e n entry.before (omega arith))
      ∙ ap (λ l. cond (at == suc n) (entry.run.superstep ∷ back log n entry.before) l) (back_more e n at (omega arith))

  -- ---- a run more

  longer : (e : LogEntry) → length (log ++ e ∷ []) ≡ suc (length log)
  longer e = length-append log (e ∷ []) ∙ omega arith

  pub chain_more : (e x : LogEntry) → x.before ≤ length log → chain (log ++ e ∷ []) x ≡ chain log x
  chain_more e x within =
      let entry = get_or (log ++ e ∷ []) (length log) no_run in
      let other : (x.before == suc (length log)) ≡ false = grind (arith, nat_tests) in
      ap (λ l. reverse (x.run.superstep ∷ l))
      (ap (λ n. back (log ++ e ∷ []) n x.before) (longer e)
      ∙ ap (λ b. cond b (entry.run.superstep ∷ back (log ++ e ∷ []) (length log) entry.before) (back (log ++ e ∷ []) (length log) x.before)) other
      ∙ back_more e (length log) x.before (omega arith))

  -- a run after one that is put into the list
  pub chain_next : (e x : LogEntry) → x.before ≡ length (log ++ e ∷ []) → chain (log ++ e ∷ []) x ≡ chain log e ++ x.run.superstep ∷ []
  chain_next e x next =
      let n = length (log ++ e ∷ []) in
      let last : get_or (log ++ e ∷ []) (length log) e ≡ e = get_last log e e in
      let at : x.before ≡ suc (length log) = next ∙ longer e in
      let there : back (log ++ e ∷ []) n x.before ≡ e.run.superstep ∷ back log (length log) e.before =
      ap (λ k. back (log ++ e ∷ []) n k) at ∙ back_at (log ++ e ∷ []) n (length log) e (let l = longer e in omega (arith, l)) (omega arith)
      ∙ ap (λ (y : LogEntry). y.run.superstep ∷ back (log ++ e ∷ []) (length log) y.before) last
      ∙ ap (λ l. e.run.superstep ∷ l) (back_more e (length log) e.before (omega arith)) in
      ap (λ l. reverse (x.run.superstep ∷ l)) there ∙ reverse_next x.run.superstep (e.run.superstep ∷ back log (length log) e.before)

  pub chain_last : (e : LogEntry) → last_of (chain log e) ≡ Some e.run.superstep
  chain_last e =
      let before = back log (length log) e.before in
      ap last_of (reverse_next e.run.superstep before) ∙ last_of-push (reverse before) e.run.superstep

-- ---- the last run in a superstep below one

pub last_by_back : (s : ℕ) (steps : List ℕ) → last_of (filter (λ t. ltb t s) (reverse steps)) ≡ first_below s steps
last_by_back s [] = refl
last_by_back s (x ∷ steps) =
    ap (λ l. last_of (filter (λ t. ltb t s) l)) (reverse_next x steps)
    ∙ ap last_of (filter-append (λ t. ltb t s) (reverse steps) (x ∷ [])) ∙ by (ltb x s) (last_by_back s steps)
  where
    by : (b : Bool) → last_of (filter (λ t. ltb t s) (reverse steps)) ≡ first_below s steps
        → last_of (filter (λ t. ltb t s) (reverse steps) ++ cond b (x ∷ []) []) ≡ cond b (Some x) (first_below s steps)
    by true later = last_of-push (filter (λ t. ltb t s) (reverse steps)) x
    by false later = ap last_of (append-nil (filter (λ t. ltb t s) (reverse steps))) ∙ later

module _ (s : ℕ) (log : List LogEntry) (e : LogEntry) where
  pub last_itself : e.run.superstep < s → Some e.run.superstep ≡ last_of (steps_below s (chain log e))
  last_itself low =
      let rest = back log (length log) e.before in
      sym (last_by_back s (e.run.superstep ∷ rest) ∙ ap (λ b. cond b (Some e.run.superstep) (first_below s rest)) (lower e.run.superstep s low))

  pub last_before_it : s ≤ e.run.superstep → first_below s (back log (length log) e.before) ≡ last_of (steps_below s (chain log e))
  last_before_it high =
      let rest = back log (length log) e.before in
      sym (last_by_back s (e.run.superstep ∷ rest) ∙ ap (λ b. cond b (Some e.run.superstep) (first_below s rest)) (not_lower e.run.superstep s high))

-- one step back
module _ (log : List LogEntry) (n at : ℕ) (some : 0 < at) (here : at ≤ n) (within : n ≤ length log) where
  pub step_back : (d : LogEntry) → back log n at ≡ (get_or log (at - 1) d).run.superstep ∷ back log (at - 1) (get_or log (at - 1) d).before
  step_back d = let is : at ≡ suc (at - 1) = omega arith in ap (back log n) is ∙ back_at log n (at - 1) d (omega arith) within

  pub found_here : (s : ℕ) (d : LogEntry) → (get_or log (at - 1) d).run.superstep < s
      → Some (get_or log (at - 1) d).run.superstep ≡ first_below s (back log n at)
  found_here s d low =
      let e = get_or log (at - 1) d in
      let rest = back log (at - 1) e.before in
      sym (ap (first_below s) (step_back d) ∙ ap (λ b. cond b (Some e.run.superstep) (first_below s rest)) (lower e.run.superstep s low))

  pub passed_here : (s : ℕ) (d : LogEntry) → s ≤ (get_or log (at - 1) d).run.superstep
      → first_below s (back log (at - 1) (get_or log (at - 1) d).before) ≡ first_below s (back log n at)
  passed_here s d high =
      let e = get_or log (at - 1) d in
      let rest = back log (at - 1) e.before in
      sym (ap (first_below s) (step_back d) ∙ ap (λ b. cond b (Some e.run.superstep) (first_below s rest)) (not_lower e.run.superstep s high))

-- ---- the runs of all vertices

module _ (log : List LogEntry) (last : List (ℕ × LogEntry)) where
  pub chain_at : (id : ℕ) → value_at id (chains log last) ≡ option_map (chain log) (value_at id last)
  chain_at id = lookup-map_values (chain log) (is_at (nat_cmp id)) last

  pub chains_rise : HasRisingIds last → HasRisingIds (chains log last)
  unfolding IsStrictlySortedBy
  chains_rise rise = subst (IsStrictlySortedBy nat_cmp) (sym (keys_of-map_values (chain log) last)) rise

pub chains_more : (log : List LogEntry) (e : LogEntry) (last : List (ℕ × LogEntry)) → AreWithin log last → chains (log ++ e ∷ []) last ≡ chains log last
chains_more log e [] within = refl
chains_more log e (x ∷ last) within =
    ap (λ steps. (x.0, steps) ∷ chains (log ++ e ∷ []) last) (chain_more log e x.1 within.0)
    ∙ ap (λ l. (x.0, chain log x.1) ∷ l) (chains_more log e last within.1)

pub within_more : (log : List LogEntry) (e : LogEntry) (last : List (ℕ × LogEntry)) → AreWithin log last → AreWithin (log ++ e ∷ []) last
within_more log e [] within = tt
within_more log e (x ∷ last) within = let l = length-append log (e ∷ []) in (omega (arith, l, within.0), within_more log e last within.1)

pub within_put : (log : List LogEntry) (last : List (ℕ × LogEntry)) (id : ℕ) (x : LogEntry) → AreWithin log last → x.before ≤ length log
    → AreWithin log (insert_entry nat_cmp last id x)
within_put log [] id x within low = (low, tt)
within_put log (y ∷ last) id x within low = by (nat_cmp id y.0) (within_put log last id x within.1 low)
  where
    by : (r : Ordering) → AreWithin log (insert_entry nat_cmp last id x)
        → AreWithin log (match_ordering r ((id, x) ∷ y ∷ last) ((y.0, x) ∷ last) (y ∷ insert_entry nat_cmp last id x))
    by Less later = (low, within)
    by Equal later = (low, within.1)
    by Greater later = (within.0, later)

module _ (log log' : List LogEntry) (last : List (ℕ × LogEntry)) (same : chains log' last ≡ chains log last) (id s : ℕ) (x : LogEntry)
    (ran : chain log' x ≡ with_ran s true (steps_in (value_at id (chains log last)))) where
  -- what stands at an id after one is put
  put_at : (q : ℕ) → value_at q (insert_entry nat_cmp last id x) ≡ cond (is_at (nat_cmp id) q) (Some x) (value_at q last)
  put_at q =
      ⊎_elim
      (λ (is : q ≡ id). subst (λ k. value_at k (insert_entry nat_cmp last id x) ≡ cond (is_at (nat_cmp id) k) (Some x) (value_at k last)) (sym is)
      (find-insert_same last id x ∙ sym (ap (λ b. cond b (Some x) (value_at id last)) (at_same id))))
      (λ (other : q ≡ id → ⊥). find-insert_other last id x q other
      ∙ sym (ap (λ b. cond b (Some x) (value_at q last)) (at_other id q (λ e. other (sym e)))))
      (cases_eq q id)

  -- a vertex has a run more, the others the same
  pub noted_in : (last' : List (ℕ × LogEntry)) → last' ≡ insert_entry nat_cmp last id x → IsNotedOf id s true (chains log last) (chains log' last')
  noted_in last' is q =
      ap (λ l. steps_in (value_at q (chains log' l))) is
      ∙ ap steps_in (chain_at log' (insert_entry nat_cmp last id x) q ∙ ap (option_map (chain log')) (put_at q))
      ∙ by (is_at (nat_cmp id) q)
    where
      by : (b : Bool) → steps_in (option_map (chain log') (cond b (Some x) (value_at q last)))
          ≡ cond b (with_ran s true (steps_in (value_at id (chains log last)))) (steps_in (value_at q (chains log last)))
      by true = ran
      by false = ap steps_in (sym (chain_at log' last q) ∙ ap (value_at q) same)

-- a run after those of a vertex that are below it
pub runs_after : (log : List LogEntry) (last : List (ℕ × LogEntry)) (id s : ℕ) (e x : LogEntry) → value_at id last ≡ Some e
    → IsNonDecreasingBy (λ t. t) (steps_in (value_at id (chains log last))) → e.run.superstep < s → x.run.superstep ≡ s
    → x.before ≡ length (log ++ e ∷ []) → chain (log ++ e ∷ []) x ≡ with_ran s true (steps_in (value_at id (chains log last)))
runs_after log last id s e x here rises low is next =
    let steps = chain log e in
    let at : steps_in (value_at id (chains log last)) ≡ steps = ap steps_in (chain_at log last id ∙ ap (option_map (chain log)) here) in
    let rise = subst (IsNonDecreasingBy (λ t. t)) at rises in
    chain_next log e x next ∙ ap (λ t. steps ++ t ∷ []) is
    ∙ sym (ran_last s steps (below_the_last s e.run.superstep steps rise (sym (chain_last log e)) low))
    ∙ ap (with_ran s true) (sym at)

-- a first run
pub runs_first : (log : List LogEntry) (last : List (ℕ × LogEntry)) (id : ℕ) (x : LogEntry) → value_at id last ≡ None → x.before ≡ 0
    → chain log x ≡ with_ran x.run.superstep true (steps_in (value_at id (chains log last)))
runs_first log last id x none first =
    ap (λ l. reverse (x.run.superstep ∷ l)) (ap (back log (length log)) first ∙ back_none log (length log))
    ∙ ap (λ o. with_ran x.run.superstep true (steps_in o)) (sym (chain_at log last id ∙ ap (option_map (chain log)) none))
