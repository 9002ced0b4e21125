-- The states of a partition's vertices, as its trace has them.
use Rattle.std.proofs.Common.{◌≡◌, ℕ, suc, ◌+◌, ◌≤◌, ◌==◌, ◌||◌, Bool, true, false, cond, List, [], ◌∷◌, ◌++◌, map, filter}
use Rattle.std.proofs.Common.{None, Some, refl, ap, ap₂, sym, ◌∙◌, subst, subst₂, arith, true≢false, inl, inr, ◌⊎◌}
use Rattle.std.specs.List.{AllByRecursion}
use Rattle.std.specs.List.Sorted.{IsStrictlySortedBy}
use Rattle.std.specs.Option.{option_to_list}
use Rattle.std.specs.Ordering.{nat_cmp}
use Rattle.std.proofs.lemmas.Bool.{cases_Bool, eqb-true}
use Rattle.std.proofs.lemmas.Bool.Decides.{nat_tests}
use Rattle.std.proofs.lemmas.List.Kept.{IsStrictlySortedBy-filter}
use Rattle.std.proofs.lemmas.Simd.{map-map}
use Rattle.pg_part.specs.PartRun.{HasSameTransition}
use Rattle.pg_graph.specs.Rows.{HasRisingIds, Rows}
use Rattle.pg_model.specs.ByIds.{state_at}
use Rattle.pg_model.specs.Job.{Job}
use Rattle.pg_model.specs.Run.{configuration}
use Rattle.pg_model.specs.Share.{belongs, share, with_inboxes_of_share}
use Rattle.pg_model.specs.Superstep.{has_id, ids}
use Rattle.pg_model.specs.declared.configuration.VertexWithInbox.{VertexWithInbox}
use Rattle.pg_model.specs.declared.configuration.VertexState.{VertexState}
use Rattle.pg_model.proofs.LawsIds.{in_order}
use Rattle.pg_model.proofs.LawsLists.{filter-map}
use Rattle.pg_part.specs.StatsHistories.{IsCountedWarm, AreCountsWithDelta}
use Rattle.pg_stats.specs.VertexCounts.{HasCountDelta, states_among}
use Rattle.pg_stats.proofs.LawsVertexCounts.{counted_warm_is, with_delta_is, some_of}
use Rattle.pg_stats.specs.Stats.{vertex_counts_of}
use Rattle.pg_stats.specs.declared.stats.VertexCounts.{VertexCounts}
use Rattle.pg_trace.specs.OfRun.{HoldsRun}
use Rattle.pg_trace.specs.Trace.{StatesRise, Trace, state_of}
use Rattle.pg_trace.proofs.RunStates.{found_in_share, state_of_run}

-- what holds of each id among some
pub all_among : (P : ℕ → Type 0) (ids : List ℕ) → ((id : ℕ) → has_id ids id ≡ true → P id) → AllByRecursion P ids
all_among P [] h = tt
all_among P (i ∷ ids) h = (h i (first i ids), all_among P ids (λ id m. h id (later i ids id m)))
  where
    first : (i : ℕ) (ids : List ℕ) → has_id (i ∷ ids) i ≡ true
    first i ids = ap (λ (b : Bool). b || has_id ids i) (let e : (i == i) ≡ true = grind (arith, nat_tests) in e)

    later : (i : ℕ) (ids : List ℕ) (id : ℕ) → has_id ids id ≡ true → has_id (i ∷ ids) id ≡ true
    later i ids id h = ap (λ (b : Bool). (i == id) || b) h ∙ by (i == id)
      where
        by : (b : Bool) → (b || true) ≡ true
        by true = refl
        by false = refl

-- an id of another partition isn't found
not_in_share : {V M : Type 0} (n p id : ℕ) → belongs n p id ≡ false → (xs : List (VertexWithInbox V M))
    → state_of id (map (λ x. x.state) (filter (λ x. belongs n p x.state.id) xs)) ≡ None
not_in_share n p id other [] = refl
not_in_share {V = V} {M = M} n p id other (x ∷ xs) = by (belongs n p x.state.id) refl (not_in_share n p id other xs)
  where
    rest : List (VertexState V)
    rest = map (λ x. x.state) (filter (λ x. belongs n p x.state.id) xs)

    at : (t : Bool) → (x.state.id == id) ≡ t → belongs n p x.state.id ≡ true → state_of id rest ≡ None → cond t (Some x.state) (state_of id rest) ≡ None
    at true e h none = absurd (true≢false (sym h ∙ (ap (belongs n p) (eqb-true x.state.id id e) ∙ other)))
    at false e h none = none

    by : (b : Bool) → belongs n p x.state.id ≡ b → state_of id (map (λ x. x.state) (filter (λ x. belongs n p x.state.id) xs)) ≡ None
        → state_of id (map (λ x. x.state) (cond b (x ∷ filter (λ x. belongs n p x.state.id) xs) (filter (λ x. belongs n p x.state.id) xs))) ≡ None
    by true h none = at (x.state.id == id) refl h none
    by false h none = none

module _ {V M : Type 0} (job : Job V M) (n p : ℕ) where
  -- the states of the partition's vertices as superstep s begins
  abbrev pub states_in : Rows → ℕ → List (VertexState V)
  states_in rows s = map (λ x. x.state) (with_inboxes_of_share job rows n p s)

  pub states_rise : (rows : Rows) → HasRisingIds rows → (s : ℕ) → StatesRise (states_in rows s)
  states_rise rows rise s =
      let xs : List (VertexWithInbox V M) = (configuration job rows s).with_inboxes in
      let picked : List (VertexWithInbox V M) = filter (λ x. belongs n p x.state.id) xs in
      subst (IsStrictlySortedBy nat_cmp)
      (filter-map (belongs n p) (λ (x : VertexWithInbox V M). x.state.id) xs ∙ sym (map-map (λ (x : VertexState V). x.id) (λ (x : VertexWithInbox V M). x.state) picked))
      (IsStrictlySortedBy-filter nat_cmp (belongs n p) (ids xs) (in_order job rows rise s).with_inboxes)

  -- those of some of its ids, as a trace that holds the run has them
  pub found : (rows : Rows) (r : ℕ) (trace : Trace V M) → HoldsRun job rows n p r trace → (s : ℕ) → s ≤ r
      → (ids : List ℕ) → AllByRecursion (λ id. belongs n p id ≡ true) ids → states_among s ids trace ≡ some_of ids (states_in rows s)
  found rows r trace holds s within [] mine = refl
  found rows r trace holds s within (id ∷ ids) mine =
      ap₂ ◌++◌
      (ap option_to_list (state_of_run trace id s job rows n p r holds mine.0 within ∙ sym (found_in_share n p id mine.0 (configuration job rows s).with_inboxes)))
      (found rows r trace holds s within ids mine.1)

  -- as the run begins, so it is of any ids
  pub found_first : (rows : Rows) (r : ℕ) (trace : Trace V M) → HoldsRun job rows n p r trace → (ids : List ℕ)
      → states_among 0 ids trace ≡ some_of ids (states_in rows 0)
  unfolding share
  found_first rows r trace holds ids = ap (λ states. some_of ids states) holds.initial

  -- the state of one of its ids among its states; of another there is none
  state_among : (rows : Rows) (s id : ℕ) → belongs n p id ≡ true → state_of id (states_in rows s) ≡ state_at job rows s id
  state_among rows s id mine = found_in_share n p id mine (configuration job rows s).with_inboxes

  no_state : (rows : Rows) (s id : ℕ) → belongs n p id ≡ false → state_of id (states_in rows s) ≡ None
  no_state rows s id other = not_in_share n p id other (configuration job rows s).with_inboxes

  -- where two runs have the same states at all of its other ids, its states are the same at all others
  same_states : (old rows : Rows) (s t : ℕ) (ids : List ℕ)
      → ((id : ℕ) → belongs n p id ≡ true → has_id ids id ≡ false → state_at job old s id ≡ state_at job rows t id)
      → (id : ℕ) → has_id ids id ≡ false → state_of id (states_in old s) ≡ state_of id (states_in rows t)
  same_states old rows s t ids same id outside =
      elim (cases_Bool (belongs n p id)) [
        | inl mine ↦ state_among old s id mine ∙ (same id mine outside ∙ sym (state_among rows t id mine))
        | inr other ↦ no_state old s id other ∙ sym (no_state rows t id other)
      ]

  -- vertex counts with what has changed at these ids are those of the run
  pub vertex_counts_is : (old rows : Rows) → HasRisingIds old → HasRisingIds rows → (before_trace trace : Trace V M) (s t : ℕ) (ids : List ℕ)
      → IsStrictlySortedBy nat_cmp ids
      → states_among s ids before_trace ≡ some_of ids (states_in old s) → states_among t ids trace ≡ some_of ids (states_in rows t)
      → ((id : ℕ) → belongs n p id ≡ true → has_id ids id ≡ false → state_at job old s id ≡ state_at job rows t id)
      → (before after : VertexCounts) → before ≡ vertex_counts_of (states_in old s) → AreCountsWithDelta before_trace s trace t ids before after
      → after ≡ vertex_counts_of (states_in rows t)
  vertex_counts_is old rows old_rise new_rise before_trace trace s t ids rise found_old found_new same before after b h =
      with_delta_is (states_in old s) (states_in rows t) ids (states_rise old old_rise s) (states_rise rows new_rise t) rise (same_states old rows s t ids same)
      before (vertex_counts_of (states_among s ids before_trace)) (vertex_counts_of (states_among t ids trace)) after b (ap vertex_counts_of found_old) (ap vertex_counts_of found_new) h

  -- one that was counted against an old run is, where all others had the same transition
  pub vertex_counts_warm_is : (old rows : Rows) → HasRisingIds old → HasRisingIds rows → (old_trace trace : Trace V M) (s : ℕ) (ids : List ℕ)
      → IsStrictlySortedBy nat_cmp ids
      → states_among s ids old_trace ≡ some_of ids (states_in old s) → states_among (s + 1) ids old_trace ≡ some_of ids (states_in old (s + 1))
      → states_among s ids trace ≡ some_of ids (states_in rows s) → states_among (s + 1) ids trace ≡ some_of ids (states_in rows (s + 1))
      → ((id : ℕ) → belongs n p id ≡ true → has_id ids id ≡ false → HasSameTransition job old rows s id)
      → (before old_before old_after after : VertexCounts) → before ≡ vertex_counts_of (states_in rows s) → old_before ≡ vertex_counts_of (states_in old s)
      → old_after ≡ vertex_counts_of (states_in old (s + 1)) → IsCountedWarm old_trace trace s ids before old_before old_after after
      → after ≡ vertex_counts_of (states_in rows (s + 1))
  vertex_counts_warm_is old rows old_rise new_rise old_trace trace s ids rise old_then old_next new_then new_next alike before old_before old_after after b ob oa h =
      counted_warm_is (states_in old s) (states_in old (s + 1)) (states_in rows s) (states_in rows (s + 1)) ids
      (states_rise old old_rise s) (states_rise old old_rise (s + 1)) (states_rise rows new_rise s) (states_rise rows new_rise (s + 1)) rise
      (λ id outside. elim (cases_Bool (belongs n p id)) [
        | inl mine ↦ member_changes id mine (alike id mine outside)
        | inr other ↦
            inl (no_state old s id other ∙ sym (no_state rows s id other), no_state old (s + 1) id other ∙ sym (no_state rows (s + 1) id other))
      ])
      before old_before old_after h.vertex_counts_delta h.old_vertex_counts_delta after b ob oa
      (subst₂ (λ (x y : List (VertexState V)). HasCountDelta before (vertex_counts_of x) (vertex_counts_of y) h.vertex_counts_delta) new_then new_next h.is_vertex_counts_delta)
      (subst₂ (λ (x y : List (VertexState V)). HasCountDelta old_before (vertex_counts_of x) (vertex_counts_of y) h.old_vertex_counts_delta) old_then old_next h.was_vertex_counts_delta) h.rest
    where
      next : suc s ≡ s + 1
      next = omega arith

      member_changes : (id : ℕ) → belongs n p id ≡ true → HasSameTransition job old rows s id
          → ((state_of id (states_in old s) ≡ state_of id (states_in rows s)) × (state_of id (states_in old (s + 1)) ≡ state_of id (states_in rows (s + 1))))
          ⊎ ((state_of id (states_in old (s + 1)) ≡ state_of id (states_in old s)) × (state_of id (states_in rows (s + 1)) ≡ state_of id (states_in rows s)))
      member_changes id mine (inl same) = inl (
        state_among old s id mine ∙ (same.0 ∙ sym (state_among rows s id mine)),
        state_among old (s + 1) id mine
            ∙ (subst (λ (k : ℕ). state_at job old k id ≡ state_at job rows k id) next same.1 ∙ sym (state_among rows (s + 1) id mine)),
      )
      member_changes id mine (inr still) = inr (
        state_among old (s + 1) id mine ∙ (subst (λ (k : ℕ). state_at job old k id ≡ state_at job old s id) next still.0 ∙ sym (state_among old s id mine)),
        state_among rows (s + 1) id mine ∙ (subst (λ (k : ℕ). state_at job rows k id ≡ state_at job rows s id) next still.1 ∙ sym (state_among rows s id mine)),
      )
