-- The vertices whose states differ between two runs.
use Rattle.std.specs.Prelude.{ℕ, ◌==◌, ◌&&◌, not, Bool, cond, ◌≡◌, true, List, Option, None, Some}
use Rattle.std.specs.Cmp.Lexicographic.{pointwise}
use Rattle.std.specs.List.{AllByRecursion, filter}
use Rattle.std.specs.Option.{option_eq}
use Rattle.std.specs.Ordering.{int_eq}
use Rattle.pg_model.specs.Superstep.{has_id}
use Rattle.pg_model.specs.declared.configuration.VertexState.{VertexState}
use Rattle.pg_trace.specs.Trace.{Trace, state_at}

-- those of some ids that aren't among others
abbrev pub without : List ℕ → List ℕ → List ℕ
without ids others = filter (λ id. not (has_id others id)) ids

-- the same ids, in whatever order
abbrev pub HaveSameIds : List ℕ → List ℕ → Type 0
HaveSameIds ids others = (id : ℕ) → has_id ids id ≡ has_id others id

module _ {V : Type 0} where
  -- a vertex that is halted, or isn't there
  abbrev pub is_quiescent : Option (VertexState V) → Bool
  is_quiescent None = true
  is_quiescent (Some x) = x.halted

  abbrev pub are_quiescent : Option (VertexState V) → Option (VertexState V) → Bool
  are_quiescent old new = is_quiescent old && is_quiescent new

  -- two states with the same id, edges and vote
  abbrev pub has_same_rest : VertexState V → VertexState V → Bool
  has_same_rest x y =
      (x.id == y.id) && (pointwise (λ a b. (a.0 == b.0) && int_eq a.1 b.1) x.edges y.edges && cond x.halted y.halted
      (not y.halted))

  -- and the same value
  abbrev pub is_same_state : (V → V → Bool) → VertexState V → VertexState V → Bool
  is_same_state value_eq x y = value_eq x.value y.value && has_same_rest x y

module _ {V M : Type 0} (value_eq : V → V → Bool) where
  -- two traces have the same state of a vertex as superstep s begins, or none
  abbrev pub has_same_state : Trace V M → Trace V M → ℕ → ℕ → Bool
  has_same_state old new s id = option_eq (is_same_state value_eq) (state_at id s old) (state_at id s new)

  -- those of some vertices of which they don't, and which are quiescent in both; and the others of which they don't
  abbrev pub quiescent_among : Trace V M → Trace V M → ℕ → List ℕ → List ℕ
  quiescent_among old new s ids =
      filter (λ id. not (has_same_state old new s id) && are_quiescent (state_at id s old) (state_at id s new)) ids

  abbrev pub live_among : Trace V M → Trace V M → ℕ → List ℕ → List ℕ
  live_among old new s ids = filter
      (λ id. not (has_same_state old new s id) && not (are_quiescent (state_at id s old) (state_at id s new))) ids

  -- where states are found the same, they are
  abbrev pub AreEqSound : Trace V M → Trace V M → ℕ → List ℕ → Type 0
  AreEqSound old new s ids = AllByRecursion
      (λ id. has_same_state old new s id ≡ true → state_at id s old ≡ state_at id s new) ids
