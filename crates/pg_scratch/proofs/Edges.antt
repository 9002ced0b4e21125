-- The edges of vertices that messages make.
use Rattle.std.proofs.Common.{◌≡◌, ℕ, ◌+◌, Bool, true, false, cond, ltb, List, [], ◌∷◌, length, refl, sym, ap, ◌∙◌, arith}
use Rattle.std.proofs.lemmas.List.Sums.{sum_by-cons}
use Rattle.pg_model.specs.Job.{Program}
use Rattle.pg_model.specs.Superstep.{edges_of, placed, made, with_made}
use Rattle.pg_model.specs.declared.configuration.VertexWithInbox.{VertexWithInbox}

module _ {V M : Type 0} (program : Program V M) where
  edges-placed : (w : ℕ × List M) (xs : List (VertexWithInbox V M)) → edges_of (placed (made program w) xs) ≡ edges_of xs
  edges-placed w [] = refl
  edges-placed w (x ∷ xs) = by (ltb w.0 x.state.id) (edges-placed w xs)
    where
      by : (b : Bool) → edges_of (placed (made program w) xs) ≡ edges_of xs
          → edges_of (cond b (made program w ∷ x ∷ xs) (x ∷ placed (made program w) xs)) ≡ edges_of (x ∷ xs)
      by true rest =
          sum_by-cons (λ (z : VertexWithInbox V M). length z.state.edges) (made program w) (x ∷ xs)
          ∙ (let e : 0 + edges_of (x ∷ xs) ≡ edges_of (x ∷ xs) = omega arith in e)
      by false rest =
          sum_by-cons (λ (z : VertexWithInbox V M). length z.state.edges) x (placed (made program w) xs)
          ∙ (ap (λ n. length x.state.edges + n) rest ∙ sym (sum_by-cons (λ (z : VertexWithInbox V M). length z.state.edges) x xs))

  -- vertices that messages make have no edges
  pub edges-made : (xs : List (VertexWithInbox V M)) (ws : List (ℕ × List M)) → edges_of (with_made program xs ws) ≡ edges_of xs
  edges-made xs [] = refl
  edges-made xs (w ∷ ws) = edges-made (placed (made program w) xs) ws ∙ edges-placed w xs
