-- The states that are read from a trace are those of the run that it holds.
use Rattle.std.proofs.Common.{◌≡◌, ℕ, zero, suc, ◌≤◌, ◌==◌, Bool, true, false, cond, List, [], ◌∷◌, ◌++◌, length, map, take, Option}
use Rattle.std.proofs.Common.{None, Some, option_map, refl, sym, ap, ◌∙◌, arith, filter, ◌⊎◌, inl, inr, true≢false, ltb}
use Rattle.std.specs.BTreeMap.{is_at}
use Rattle.std.specs.List.{AllByRecursion}
use Rattle.std.specs.List.Sorted.{IsStrictlySortedBy}
use Rattle.std.specs.Option.{option_and_then, option_or}
use Rattle.std.specs.Ordering.{nat_cmp}
use Rattle.std.specs.declared.cmp.Ordering.TheVariants.{Less}
use Rattle.std.proofs.lemmas.Bool.{cases_lt, eqb-true}
use Rattle.std.proofs.lemmas.Bool.Decides.{nat_tests}
use Rattle.std.proofs.lemmas.List.{take-append-le, take-take, length-append, take_all}
use Rattle.std.proofs.lemmas.Option.{none-some, same_Some}
use Rattle.pg_graph.specs.Rows.{HasRisingIds, Rows}
use Rattle.pg_map.specs.Entries.{value_at}
use Rattle.pg_model.specs.Job.{Job, Program}
use Rattle.pg_model.specs.Needed.{with_inbox_at}
use Rattle.pg_model.specs.Run.{configuration, present_at, view_at}
use Rattle.pg_model.specs.Share.{belongs, records_below, records_in, share}
use Rattle.pg_model.specs.Superstep.{ids, is_active, made, outcome, placed, state_after, with_made}
use Rattle.pg_model.specs.declared.configuration.VertexWithInbox.{VertexWithInbox}
use Rattle.pg_model.specs.declared.configuration.VertexState.{VertexState}
use Rattle.pg_model.specs.declared.record.Record.{Record}
use Rattle.pg_model.proofs.LawsAgreement.{state_after-idle}
use Rattle.pg_model.proofs.LawsIds.{ids_rise, with_inbox_after, with_inbox_at-next}
use Rattle.pg_model.proofs.LawsVerticesWithInbox.{with_inbox_is}
use Rattle.pg_trace.specs.OfRun.{IsOfRun, run_state}
use Rattle.pg_trace_index.specs.Records.{last_record}
use Rattle.pg_trace.specs.Trace.{Trace, left_by, state_at, state_of}

not_both : (b : Bool) → b ≡ true → b ≡ false → ⊥
not_both b h k = absurd (true≢false (sym h ∙ k))

same_test : (a b : ℕ) → is_at (nat_cmp a) b ≡ (b == a)
same_test a b = grind (arith, nat_tests)

above_apart : (a b : ℕ) → nat_cmp a b ≡ Less → (b == a) ≡ false
above_apart a b h = grind (arith, nat_tests)

-- ---- the last record, one superstep more

or_none : {X : Type 0} (o : Option X) → o ≡ option_or o None
or_none None = refl
or_none (Some x) = refl

or_assoc : {X : Type 0} (a b c : Option X) → option_or (option_or a b) c ≡ option_or a (option_or b c)
or_assoc None b c = refl
or_assoc (Some x) b c = refl

pub or_map : {X Y : Type 0} (f : X → Y) (a b : Option X) (c : Option Y)
    → option_or (option_map f (option_or a b)) c ≡ option_or (option_map f a) (option_or (option_map f b) c)
or_map f None b c = refl
or_map f (Some x) b c = refl

pub last-push : {X : Type 0} (id : ℕ) (rs : List (List (ℕ × X))) (r : List (ℕ × X)) → last_record id (rs ++ r ∷ []) ≡ option_or (value_at id r) (last_record id rs)
last-push id [] r = or_none (value_at id r)
last-push id (q ∷ rs) r = ap (λ o. option_or o (value_at id q)) (last-push id rs r) ∙ or_assoc (value_at id r) (last_record id rs) (value_at id q)

-- ---- vertices of a superstep and those that had a state

module _ {V M : Type 0} (id : ℕ) where
  -- a vertex that is placed among others is found, or what was found before
  placed_cases : (y : VertexWithInbox V M) (ys : List (VertexWithInbox V M)) → (with_inbox_at id (placed y ys) ≡ with_inbox_at id ys) ⊎ (with_inbox_at id (placed y ys) ≡ Some y)
  placed_cases y [] = by (y.state.id == id)
    where
      by : (t : Bool) → (cond t (Some y) None ≡ None) ⊎ (cond t (Some y) None ≡ Some y)
      by true = inr refl
      by false = inl refl
  placed_cases y (z ∷ zs) = by (ltb y.state.id z.state.id) (placed_cases y zs)
    where
      first : (t : Bool) (o : Option (VertexWithInbox V M)) → (cond t (Some y) o ≡ o) ⊎ (cond t (Some y) o ≡ Some y)
      first true o = inr refl
      first false o = inl refl

      later : (t : Bool) → (with_inbox_at id (placed y zs) ≡ with_inbox_at id zs) ⊎ (with_inbox_at id (placed y zs) ≡ Some y)
          → (cond t (Some z) (with_inbox_at id (placed y zs)) ≡ cond t (Some z) (with_inbox_at id zs)) ⊎ (cond t (Some z) (with_inbox_at id (placed y zs)) ≡ Some y)
      later true e = inl refl
      later false e = e

      by : (t : Bool) → (with_inbox_at id (placed y zs) ≡ with_inbox_at id zs) ⊎ (with_inbox_at id (placed y zs) ≡ Some y)
          → (with_inbox_at id (cond t (y ∷ z ∷ zs) (z ∷ placed y zs)) ≡ with_inbox_at id (z ∷ zs))
          ⊎ (with_inbox_at id (cond t (y ∷ z ∷ zs) (z ∷ placed y zs)) ≡ Some y)
      by true e = first (y.state.id == id) (with_inbox_at id (z ∷ zs))
      by false e = later (z.state.id == id) e

  module _ (program : Program V M) where
    -- an id without a vertex had no state
    absent : (ws : List (ℕ × List M)) (xs : List (VertexWithInbox V M)) → with_inbox_at id (with_made program xs ws) ≡ None → with_inbox_at id xs ≡ None
    absent [] xs none = none
    absent (w ∷ ws) xs none =
        let after = absent ws (placed (made program w) xs) none in
        elim (placed_cases (made program w) xs) [
          | inl e ↦ sym e ∙ after
          | inr e ↦ absurd (none-some (made program w) (sym after ∙ e))
        ]

    -- a vertex that isn't executed had this state
    inactive : (ws : List (ℕ × List M)) (xs : List (VertexWithInbox V M)) (x : VertexWithInbox V M) → with_inbox_at id (with_made program xs ws) ≡ Some x → is_active x ≡ false
        → with_inbox_at id xs ≡ Some x
    inactive [] xs x found idle = found
    inactive (w ∷ ws) xs x found idle =
        let after = inactive ws (placed (made program w) xs) x found idle in
        elim (placed_cases (made program w) xs) [
          | inl e ↦ sym e ∙ after
          | inr e ↦ absurd (true≢false (ap is_active (same_Some (made program w) x (sym e ∙ after)) ∙ idle))
        ]

-- ---- one partition

-- an id of another partition is another id
other : (n p id : ℕ) → belongs n p id ≡ true → (k : ℕ) → belongs n p k ≡ false → (k == id) ≡ false
other n p id mine k h = by (k == id) refl
  where
    by : (t : Bool) → (k == id) ≡ t → t ≡ false
    by true e = absurd (not_both (belongs n p id) mine (ap (belongs n p) (sym (eqb-true k id e)) ∙ h))
    by false e = refl

module _ {V M : Type 0} (n p id : ℕ) (mine : belongs n p id ≡ true) where
  -- the state of one of its ids is found among its states
  pub found_in_share : (xs : List (VertexWithInbox V M)) → state_of id (map (λ x. x.state) (filter (λ x. belongs n p x.state.id) xs))
      ≡ option_map (λ x. x.state) (with_inbox_at id xs)
  found_in_share [] = refl
  found_in_share (x ∷ xs) = by (belongs n p x.state.id) refl (found_in_share xs)
    where
      rest : List (VertexWithInbox V M)
      rest = filter (λ x. belongs n p x.state.id) xs

      at : (t : Bool) → state_of id (map (λ x. x.state) rest) ≡ option_map (λ x. x.state) (with_inbox_at id xs)
          → cond t (Some x.state) (state_of id (map (λ x. x.state) rest)) ≡ option_map (λ x. x.state) (cond t (Some x) (with_inbox_at id xs))
      at true e = refl
      at false e = e

      by : (b : Bool) → belongs n p x.state.id ≡ b → state_of id (map (λ x. x.state) rest) ≡ option_map (λ x. x.state) (with_inbox_at id xs)
          → state_of id (map (λ x. x.state) (cond b (x ∷ rest) rest)) ≡ option_map (λ x. x.state) (cond (x.state.id == id) (Some x) (with_inbox_at id xs))
      by true h e = at (x.state.id == id) e
      by false h e = e ∙ sym (ap (λ t. option_map (λ x. x.state) (cond t (Some x) (with_inbox_at id xs))) (other n p id mine x.state.id h))

  module _ (f : VertexWithInbox V M → Record V M) where
    abbrev given : List (VertexWithInbox V M) → List (ℕ × Record V M)
    given xs = map (λ x. (x.state.id, f x)) (filter is_active (filter (λ x. belongs n p x.state.id) xs))

    abbrev record_of : VertexWithInbox V M → Option (Record V M)
    record_of x = cond (is_active x) (Some (f x)) None

    none_given : (k : ℕ) (xs : List (VertexWithInbox V M)) → k ≡ id → AllByRecursion (λ y. nat_cmp k y ≡ Less) (ids xs) → value_at id (given xs) ≡ None
    none_given k [] same all = refl
    none_given k (x ∷ xs) same all = by (belongs n p x.state.id) (is_active x) (none_given k xs same all.1)
      where
        apart : is_at (nat_cmp id) x.state.id ≡ false
        apart = same_test id x.state.id ∙ ap (λ i. x.state.id == i) (sym same) ∙ above_apart k x.state.id all.0

        by : (b a : Bool) → value_at id (given xs) ≡ None
            → value_at id (map (λ x. (x.state.id, f x))
            (filter is_active (cond b (x ∷ filter (λ x. belongs n p x.state.id) xs) (filter (λ x. belongs n p x.state.id) xs)))) ≡ None
        by false a e = e
        by true a e = at (is_active x)
          where
            at : (a : Bool) → value_at id (map (λ x. (x.state.id, f x))
                (cond a (x ∷ filter is_active (filter (λ x. belongs n p x.state.id) xs)) (filter is_active (filter (λ x. belongs n p x.state.id) xs)))) ≡ None
            at true = ap (λ t. cond t (Some (f x)) (value_at id (given xs))) apart ∙ e
            at false = e

    joined : (t : Bool) (x : VertexWithInbox V M) (o : Option (VertexWithInbox V M))
        → cond t (record_of x) (option_and_then record_of o) ≡ option_and_then record_of (cond t (Some x) o)
    joined true x o = refl
    joined false x o = refl

    -- its record in the superstep is what its vertex gives, if it is executed
    in_records : (xs : List (VertexWithInbox V M)) → IsStrictlySortedBy nat_cmp (ids xs) → value_at id (given xs) ≡ option_and_then record_of (with_inbox_at id xs)
    unfolding IsStrictlySortedBy
    in_records [] rise = refl
    in_records (x ∷ xs) rise =
        by (belongs n p x.state.id) refl (in_records xs rise.1) (λ same. none_given x.state.id xs same rise.0) ∙ joined (x.state.id == id) x (with_inbox_at id xs)
      where
        picked : List (VertexWithInbox V M)
        picked = filter (λ x. belongs n p x.state.id) xs

        at : (a t : Bool) → is_at (nat_cmp id) x.state.id ≡ t → value_at id (given xs) ≡ option_and_then record_of (with_inbox_at id xs)
            → (t ≡ true → value_at id (given xs) ≡ None)
            → value_at id (map (λ x. (x.state.id, f x)) (cond a (x ∷ filter is_active picked) (filter is_active picked)))
            ≡ cond t (cond a (Some (f x)) None) (option_and_then record_of (with_inbox_at id xs))
        at true true e later none = ap (λ t. cond t (Some (f x)) (value_at id (given xs))) e
        at true false e later none = ap (λ t. cond t (Some (f x)) (value_at id (given xs))) e ∙ later
        at false true e later none = none refl
        at false false e later none = later

        by : (b : Bool) → belongs n p x.state.id ≡ b → value_at id (given xs) ≡ option_and_then record_of (with_inbox_at id xs)
            → (x.state.id ≡ id → value_at id (given xs) ≡ None)
            → value_at id (map (λ x. (x.state.id, f x)) (filter is_active (cond b (x ∷ picked) picked)))
            ≡ cond (x.state.id == id) (record_of x) (option_and_then record_of (with_inbox_at id xs))
        by true h later none = at (is_active x) (x.state.id == id) (same_test id x.state.id) later (λ e. none (eqb-true x.state.id id e))
        by false h later none = later ∙ sym (ap (λ t. cond t (record_of x) (option_and_then record_of (with_inbox_at id xs))) (other n p id mine x.state.id h))

  module _ (job : Job V M) (rows : Rows) (rising : HasRisingIds rows) where
    length-below : (r : ℕ) → length (records_below job rows n p r) ≡ r
    unfolding records_below
    length-below zero = refl
    length-below (suc r) = length-append (records_below job rows n p r) (records_in job rows n p r ∷ []) ∙ (let h = length-below r in omega arith)

    take_below : (r s : ℕ) → s ≤ r → take s (records_below job rows n p r) ≡ records_below job rows n p s
    unfolding records_below
    take_below zero zero h = refl
    take_below zero (suc s) h = absurd (omega arith)
    take_below (suc r) s h =
        elim (cases_lt s (suc r)) [
          | inl less ↦
              take-append-le s (records_below job rows n p r) (records_in job rows n p r ∷ []) (let l = length-below r in omega arith)
              ∙ take_below r s (omega arith)
          | inr more ↦
              let same : suc r ≡ s = omega arith in
              take_all s (records_below job rows n p (suc r)) (let l = length-below (suc r) in omega arith) ∙ ap (records_below job rows n p) same
        ]

    abbrev gives : ℕ → VertexWithInbox V M → Record V M
    gives s x = outcome job.program (view_at job rows s) x

    -- what its record leaves, or else its state before, is its state after
    stepped : (s : ℕ) (o : Option (VertexWithInbox V M)) → with_inbox_at id (present_at job rows s) ≡ o
        → option_or (option_map (left_by id) (option_and_then (record_of (gives s)) o)) (run_state job rows id s)
        ≡ option_map (λ x. x.state) (option_map (with_inbox_after job (view_at job rows s) (present_at job rows s)) o)
    stepped s None e =
        ap (option_map (λ x. x.state)) (absent id job.program (configuration job rows s).waiting (configuration job rows s).with_inboxes e)
    stepped s (Some x) e = by (is_active x) refl
      where
        by : (a : Bool) → is_active x ≡ a
            → option_or (option_map (left_by id) (cond a (Some (gives s x)) None)) (run_state job rows id s) ≡ Some (state_after x.state (gives s x))
        by true active = ap (λ k. Some (left_by k (gives s x))) (sym (with_inbox_is id (present_at job rows s) x e).0)
        by false idle =
            ap (option_map (λ x. x.state)) (inactive id job.program (configuration job rows s).waiting (configuration job rows s).with_inboxes x e idle)
            ∙ ap Some (sym (state_after-idle job.program (view_at job rows s) x idle))

    after : (s : ℕ) → run_state job rows id (suc s)
        ≡ option_map (λ x. x.state) (option_map (with_inbox_after job (view_at job rows s) (present_at job rows s)) (with_inbox_at id (present_at job rows s)))
    unfolding configuration
    after s = ap (option_map (λ x. x.state)) (with_inbox_at-next job s (configuration job rows s) id)

    abbrev read : ℕ → Option (VertexState V)
    read s = option_or (option_map (left_by id) (last_record id (records_below job rows n p s))) (state_of id (share job rows n p 0).states)

    read-run : (s : ℕ) → read s ≡ run_state job rows id s
    unfolding records_below share
    read-run zero = found_in_share (configuration job rows 0).with_inboxes
    read-run (suc s) =
        let initial = state_of id (share job rows n p 0).states in
        let now = value_at id (records_in job rows n p s) in
        let before = last_record id (records_below job rows n p s) in
        let is = in_records (gives s) (present_at job rows s) (ids_rise job rows rising s) in
        ap (λ o. option_or (option_map (left_by id) o) initial) (last-push id (records_below job rows n p s) (records_in job rows n p s))
        ∙ or_map (left_by id) now before initial
        ∙ ap (λ o. option_or (option_map (left_by id) now) o) (read-run s)
        ∙ ap (λ o. option_or (option_map (left_by id) o) (run_state job rows id s)) is
        ∙ stepped s (with_inbox_at id (present_at job rows s)) refl
        ∙ sym (after s)

-- where a trace holds a run up to a superstep, what it has of a vertex as that one begins, or one before it, is the run's
pub state_of_run : {V M : Type 0} (trace : Trace V M) (id s : ℕ) → IsOfRun trace id s (state_at id s trace)
state_of_run {V = V} {M = M} trace id s job rows n p r holds mine within =
    let reads : List (List (ℕ × Record V M)) → List (VertexState V)
    → Option (VertexState V) = λ rs initial. option_or (option_map (left_by id) (last_record id rs)) (state_of id initial) in
    ap (λ rs. reads rs trace.initial) (sym (take-take s r trace.records within))
    ∙ ap (λ rs. reads (take s rs) trace.initial) holds.records
    ∙ ap (λ rs. reads rs trace.initial) (take_below n p id mine job rows holds.rise r s within)
    ∙ ap (λ initial. reads (records_below job rows n p s) initial) holds.initial
    ∙ read-run n p id mine job rows holds.rise s
