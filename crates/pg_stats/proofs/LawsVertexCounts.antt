-- The vertex counts of states that differ from others at some ids alone.
use Rattle.std.proofs.Common.{◌≡◌, ℕ, suc, ◌+◌, cond, not, false, List, [], ◌∷◌, length, refl, ap, ap₂}
use Rattle.std.proofs.Common.{sym, ◌∙◌, arith, sum_by, flat_map, Option, None, Some, inl, inr, ◌⊎◌}
use Rattle.std.specs.List.Sorted.{IsStrictlySortedBy}
use Rattle.std.specs.Option.{option_to_list}
use Rattle.std.specs.Ordering.{nat_cmp}
use Rattle.std.proofs.lemmas.List.Sums.{sum_by-cons}
use Rattle.pg_model.specs.Superstep.{has_id}
use Rattle.pg_model.specs.declared.configuration.VertexState.{VertexState}
use Rattle.pg_model.proofs.LawsLists.{sum_by-flat_map}
use Rattle.pg_stats.specs.VertexCounts.{HasCountDelta}
use Rattle.pg_stats.proofs.Sums.{at, at-rising, same_but_at, same_pairs_but_at, same_sums, weighed}
use Rattle.pg_stats.specs.Stats.{vertex_counts_of}
use Rattle.pg_stats.specs.declared.stats.VertexCounts.{VertexCounts}
use Rattle.pg_trace.specs.Trace.{StatesRise, state_of}

-- a length as a sum
length_is_sum : {X : Type 0} (xs : List X) → length xs ≡ sum_by (λ x. 1) xs
length_is_sum [] = refl
length_is_sum {X = X} (x ∷ xs) = ap suc (length_is_sum xs) ∙ (omega arith ∙ sym (sum_by-cons (λ (y : X). 1) x xs))

module _ {V : Type 0} where
  -- the states of some ids, of those that are among these states
  abbrev pub some_of : List ℕ → List (VertexState V) → List (VertexState V)
  some_of ids states = flat_map (λ id. option_to_list (state_of id states)) ids

  -- a count is a sum over the states that are counted
  abbrev IsSumOver : (VertexCounts → ℕ) → (VertexState V → ℕ) → Type 0
  IsSumOver count w = (states : List (VertexState V)) → count (vertex_counts_of states) ≡ sum_by w states

  id_of : VertexState V → ℕ
  id_of x = x.id

  at_states : (w : VertexState V → ℕ) (states : List (VertexState V)) → StatesRise states → (id : ℕ)
      → at (λ (x : VertexState V). x.id) w id states ≡ weighed (λ (x : VertexState V). x.id) w (state_of id states)
  at_states w states r id = at-rising (λ (x : VertexState V). x.id) w id states r

  option_sum : (w : VertexState V → ℕ) (o : Option (VertexState V)) → weighed (λ (x : VertexState V). x.id) w o ≡ sum_by w (option_to_list o)
  option_sum w None = refl
  option_sum w (Some x) = sym (sum_by-cons w x [] ∙ omega arith)

  among : (ids : List ℕ) (w : VertexState V → ℕ) (states : List (VertexState V)) → StatesRise states
      → sum_by (λ id. at (λ (x : VertexState V). x.id) w id states) ids ≡ sum_by w (some_of ids states)
  among ids w states r =
      same_sums (λ id. at (λ (x : VertexState V). x.id) w id states) (λ id. sum_by w (option_to_list (state_of id states))) ids
      (λ id. at_states w states r id ∙ option_sum w (state_of id states))
      ∙ sym (sum_by-flat_map w (λ id. option_to_list (state_of id states)) ids)

  module _ (xs ys : List (VertexState V)) (ids : List ℕ) (rise : StatesRise xs) (rise' : StatesRise ys) (rising : IsStrictlySortedBy nat_cmp ids)
      (same : (id : ℕ) → has_id ids id ≡ false → state_of id xs ≡ state_of id ys) where
    -- whatever is summed up of the states
    vertex_counts_delta : (w : VertexState V → ℕ) → sum_by w xs + sum_by w (some_of ids ys) ≡ sum_by w ys + sum_by w (some_of ids xs)
    vertex_counts_delta w =
        ap (λ n. sum_by w xs + n) (sym (among ids w ys rise'))
        ∙ (same_but_at (λ (x : VertexState V). x.id) w (λ (x : VertexState V). x.id) w xs ys ids rising
        (λ id n. at_states w xs rise id ∙ (ap (weighed (λ (x : VertexState V). x.id) w) (same id n) ∙ sym (at_states w ys rise' id)))
        ∙ ap (λ n. sum_by w ys + n) (among ids w xs rise))

    module _ (before removed added after : VertexCounts) (before_is : before ≡ vertex_counts_of xs)
        (removed_is : removed ≡ vertex_counts_of (some_of ids xs)) (added_is : added ≡ vertex_counts_of (some_of ids ys)) where
      -- so each count of states that is such a sum
      count_is : (count : VertexCounts → ℕ) (w : VertexState V → ℕ) → IsSumOver count w
          → count after + count removed ≡ count before + count added → count after ≡ count (vertex_counts_of ys)
      count_is count w is h =
          omega (
            arith,
            h,
            ap count before_is,
            ap count removed_is,
            ap count added_is,
            vertex_counts_delta w,
            is xs,
            is ys,
            is (some_of ids xs),
            is (some_of ids ys),
          )

      -- the vertex counts of the one, without what the others have at these ids and with what it has there
      pub with_delta_is : HasCountDelta before removed added after → after ≡ vertex_counts_of ys
      with_delta_is h =
          let v : after.vertices ≡ length ys = count_is (λ x. x.vertices) (λ x. 1) length_is_sum h.vertices in
          let e : after.edges ≡ sum_by (λ (x : VertexState V). length x.edges) ys =
          count_is (λ x. x.edges) (λ x. length x.edges) (λ states. refl) h.edges in
          let a : after.unhalted ≡ sum_by (λ (x : VertexState V). cond (not x.halted) 1 0) ys =
          count_is (λ x. x.unhalted) (λ x. cond (not x.halted) 1 0) (λ states. refl) h.unhalted in
          λ i. record { vertices = v i; edges = e i; unhalted = a i }

  -- of two runs: the states before and after a superstep in the old one, and in the new one
  module _ (old old' new new' : List (VertexState V)) (ids : List ℕ) (old_rise : StatesRise old) (old_rise' : StatesRise old')
      (rise : StatesRise new) (rise' : StatesRise new')
      (rising : IsStrictlySortedBy nat_cmp ids)
      (alike : (id : ℕ) → has_id ids id ≡ false
      → ((state_of id old ≡ state_of id new) × (state_of id old' ≡ state_of id new')) ⊎
      ((state_of id old' ≡ state_of id old) × (state_of id new' ≡ state_of id new))) where
    -- whatever is summed up of them
    vertex_counts_delta_alike : (w : VertexState V → ℕ)
        → (sum_by w old + sum_by w new') + (sum_by w (some_of ids old') + sum_by w (some_of ids new))
        ≡ (sum_by w old' + sum_by w new) + (sum_by w (some_of ids old) + sum_by w (some_of ids new'))
    vertex_counts_delta_alike w =
        ap (λ n. (sum_by w old + sum_by w new') + n) (sym (ap₂ ◌+◌ (among ids w old' old_rise') (among ids w new rise)))
        ∙ (same_pairs_but_at (λ (x : VertexState V). x.id) w old old' new new' ids rising one
        ∙ ap (λ n. (sum_by w old' + sum_by w new) + n) (ap₂ ◌+◌ (among ids w old old_rise) (among ids w new' rise')))
      where
        weight : Option (VertexState V) → ℕ
        weight o = weighed (λ (x : VertexState V). x.id) w o

        one : (id : ℕ) → has_id ids id ≡ false
            → at (λ (x : VertexState V). x.id) w id old + at (λ (x : VertexState V). x.id) w id new'
            ≡ at (λ (x : VertexState V). x.id) w id old' + at (λ (x : VertexState V). x.id) w id new
        one id other =
            ap₂ ◌+◌ (at_states w old old_rise id) (at_states w new' rise' id)
            ∙ (elim (alike id other) [
              | inl same ↦ swapped (weight (state_of id old)) (weight (state_of id new')) (weight (state_of id old'))
                  (weight (state_of id new)) (ap weight same.0) (ap weight same.1)
              | inr still ↦ ap₂ ◌+◌ (ap weight (sym still.0)) (ap weight still.1)
            ]
            ∙ sym (ap₂ ◌+◌ (at_states w old' old_rise' id) (at_states w new rise id)))
          where
            swapped : (a b c d : ℕ) → a ≡ d → c ≡ b → a + b ≡ c + d
            swapped a b c d e f = omega (arith, e, f)

    module _ (before old_before old_after vertex_counts_delta old_vertex_counts_delta after : VertexCounts) (before_is : before ≡ vertex_counts_of new)
        (old_before_is : old_before ≡ vertex_counts_of old) (old_after_is : old_after ≡ vertex_counts_of old') where
      -- so each count of states that is such a sum
      count_warm_is : (count : VertexCounts → ℕ) (w : VertexState V → ℕ) → IsSumOver count w
          → count vertex_counts_delta + count (vertex_counts_of (some_of ids new)) ≡ count before + count (vertex_counts_of (some_of ids new'))
          → count old_vertex_counts_delta + count (vertex_counts_of (some_of ids old)) ≡ count old_before + count (vertex_counts_of (some_of ids old'))
          → count after + count old_vertex_counts_delta ≡ count vertex_counts_delta + count old_after → count after ≡ count (vertex_counts_of new')
      count_warm_is count w is t ot h =
          omega (
            arith,
            h,
            t,
            ot,
            ap count before_is,
            ap count old_before_is,
            ap count old_after_is,
            vertex_counts_delta_alike w,
            is old,
            is old',
            is new,
            is new',
            is (some_of ids old),
            is (some_of ids old'),
            is (some_of ids new),
            is (some_of ids new'),
          )

      -- the vertex counts of the new run after it
      pub counted_warm_is : HasCountDelta before (vertex_counts_of (some_of ids new)) (vertex_counts_of (some_of ids new')) vertex_counts_delta
          → HasCountDelta old_before (vertex_counts_of (some_of ids old)) (vertex_counts_of (some_of ids old')) old_vertex_counts_delta
          → HasCountDelta vertex_counts_delta old_vertex_counts_delta old_after after → after ≡ vertex_counts_of new'
      counted_warm_is t ot h =
          let v : after.vertices ≡ length new' = count_warm_is (λ x. x.vertices) (λ x. 1) length_is_sum t.vertices ot.vertices h.vertices in
          let e : after.edges ≡ sum_by (λ (x : VertexState V). length x.edges) new' =
          count_warm_is (λ x. x.edges) (λ x. length x.edges) (λ states. refl) t.edges ot.edges h.edges in
          let a : after.unhalted ≡ sum_by (λ (x : VertexState V). cond (not x.halted) 1 0) new' =
          count_warm_is (λ x. x.unhalted) (λ x. cond (not x.halted) 1 0) (λ states. refl) t.unhalted ot.unhalted h.unhalted in
          λ i. record { vertices = v i; edges = e i; unhalted = a i }
