-- Vertex counts of more vertices.
use Rattle.std.proofs.Common.{◌≡◌, ℕ, ◌+◌, ◌<◌, cond, not, Bool, true, false, List, [], ◌∷◌, ◌++◌, length, get_or, take}
use Rattle.std.proofs.Common.{refl, ap, subst, sym, ◌∙◌, zero-add, sum_by, Option}
use Rattle.std.proofs.lemmas.List.{append-nil, length-append, take_more}
use Rattle.std.proofs.lemmas.Grind.{flat_map-append}
use Rattle.std.proofs.lemmas.List.Sums.{sum_by-append}
use Rattle.std.specs.Option.{option_to_list}
use Rattle.pg_model.specs.declared.configuration.VertexState.{VertexState}
use Rattle.pg_stats.specs.VertexCounts.{IsSum, of_one, states_among}
use Rattle.pg_stats.specs.Stats.{vertex_counts_of}
use Rattle.pg_stats.specs.declared.stats.VertexCounts.{VertexCounts}
use Rattle.pg_trace.specs.Trace.{Trace, state_at}

pub same_sum : (a b c d : VertexCounts) → IsSum a b c → IsSum a b d → c ≡ d
same_sum a b c d h k =
    let v : c.vertices ≡ d.vertices = h.vertices ∙ sym k.vertices in
    let e : c.edges ≡ d.edges = h.edges ∙ sym k.edges in
    let w : c.unhalted ≡ d.unhalted = h.unhalted ∙ sym k.unhalted in
    λ i. record { vertices = v i; edges = e i; unhalted = w i }

pub one_taken : {X : Type 0} (xs : List X) (i : ℕ) {x : X} → i < length xs → x ≡ get_or xs i x → take i xs ++ x ∷ [] ≡ take (i + 1) xs
one_taken xs i {x} within is = ap (λ y. take i xs ++ y ∷ []) is ∙ sym (take_more xs i x within)

module _ {V : Type 0} where
  pub vertex_counts-append : (xs ys : List (VertexState V)) → IsSum (vertex_counts_of xs) (vertex_counts_of ys) (vertex_counts_of (xs ++ ys))
  vertex_counts-append xs ys = record {
    vertices = length-append xs ys;
    edges = sum_by-append (λ (x : VertexState V). length x.edges) xs ys;
    unhalted = sum_by-append (λ (x : VertexState V). cond (not x.halted) 1 0) xs ys;
  }

  one : (x : VertexState V) → vertex_counts_of (x ∷ []) ≡ of_one (length x.edges) x.halted
  one x =
      let e : sum_by (λ (y : VertexState V). length y.edges) (x ∷ []) ≡ length x.edges = zero-add (length x.edges) in
      let w : sum_by (λ (y : VertexState V). cond (not y.halted) 1 0) (x ∷ []) ≡ cond x.halted 0 1 = zero-add (cond (not x.halted) 1 0) ∙ by x.halted in
      λ i. record { vertices = 1; edges = e i; unhalted = w i }
    where
      by : (b : Bool) → cond {A = ℕ} (not b) 1 0 ≡ cond b 0 1
      by true = refl
      by false = refl

  -- with one vertex more
  pub vertex_counts_push : (xs : List (VertexState V)) (x : VertexState V) (after : VertexCounts)
      → IsSum (vertex_counts_of xs) (of_one (length x.edges) x.halted) after → after ≡ vertex_counts_of (xs ++ x ∷ [])
  vertex_counts_push xs x after h =
      same_sum (vertex_counts_of xs) (of_one (length x.edges) x.halted) after (vertex_counts_of (xs ++ x ∷ [])) h
      (subst (λ (c : VertexCounts). IsSum (vertex_counts_of xs) c (vertex_counts_of (xs ++ x ∷ []))) (one x) (vertex_counts-append xs (x ∷ [])))

  module _ {M : Type 0} (s : ℕ) (trace : Trace V M) where
    -- the counts of the states that some ids have
    abbrev pub counts_among : List ℕ → VertexCounts
    counts_among ids = vertex_counts_of (states_among s ids trace)

    -- with the state of one id more, if it has one
    among_push : (ids : List ℕ) (id : ℕ) (after : VertexCounts) → IsSum (counts_among ids) (counts_among (id ∷ [])) after
        → after ≡ counts_among (ids ++ id ∷ [])
    among_push ids id after h =
        let more : states_among s (ids ++ id ∷ []) trace ≡ states_among s ids trace ++ states_among s (id ∷ []) trace =
        flat_map-append (λ k. option_to_list (state_at k s trace)) ids (id ∷ []) in
        same_sum (counts_among ids) (counts_among (id ∷ [])) after _ h
        (vertex_counts-append (states_among s ids trace) (states_among s (id ∷ []) trace))
        ∙ ap vertex_counts_of (sym more)

    -- the same where that state was found
    pub with_push : (ids : List ℕ) (id : ℕ) (found : Option (VertexState V)) (after : VertexCounts) → found ≡ state_at id s trace
        → IsSum (counts_among ids) (vertex_counts_of (option_to_list found)) after → after ≡ counts_among (ids ++ id ∷ [])
    with_push ids id found after is h =
        among_push ids id after
        (subst (λ l. IsSum (counts_among ids) (vertex_counts_of l) after)
        (ap option_to_list is ∙ sym (append-nil (option_to_list (state_at id s trace)))) h)
