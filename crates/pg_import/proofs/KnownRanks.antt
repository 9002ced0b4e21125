-- What is known of the ends of lines stays known.
use Rattle.std.proofs.Common.{◌≡◌, ℕ, zero, suc, List, [], ◌∷◌, Some, slice_set, slice_get, replicate, ap, option_map, subst, sym, ◌∙◌}
use Rattle.std.proofs.lemmas.Option.{same_Some, slice_get-map}
use Rattle.pg_graph.specs.Rows.{Rows}
use Rattle.pg_import.specs.Ranks.{AreKnown, IsKnown, sources_of, targets_of}
use Rattle.pg_import.specs.declared.line.Line.{Line}
use Rattle.pg_import.specs.declared.order.EndRank.{EndRank}

module _ (rows : Rows) where
  -- where all stand somewhere
  pub AreKnown-replicate : (place : ℕ) (n : ℕ) (ids : List ℕ) → AreKnown rows ids (replicate n (record { rank = Some place }))
  AreKnown-replicate place n [] = tt
  AreKnown-replicate place zero (id ∷ ids) = tt
  AreKnown-replicate place (suc n) (id ∷ ids) = (λ none. cc none, AreKnown-replicate place n ids)

  -- of the id at a place
  pub AreKnown-at : (ids : List ℕ) (ranks : List EndRank) (i : ℕ) {id : ℕ} {rank : EndRank} → AreKnown rows ids ranks
      → slice_get ids i ≡ Some id → slice_get ranks i ≡ Some rank → IsKnown rows id rank
  AreKnown-at [] ranks i known at here = cc at
  AreKnown-at (x ∷ xs) [] i known at here = cc here
  AreKnown-at (x ∷ xs) (r ∷ rs) zero {id} {rank} known at here =
      subst (λ y. IsKnown rows y rank) (same_Some _ _ at) (subst (IsKnown rows x) (same_Some _ _ here) known.0)
  AreKnown-at (x ∷ xs) (r ∷ rs) (suc i) known at here = AreKnown-at xs rs i known.1 at here

  -- with another of the id at a place
  pub AreKnown-set : (ids : List ℕ) (ranks : List EndRank) (i : ℕ) {id : ℕ} (rank : EndRank) → AreKnown rows ids ranks
      → slice_get ids i ≡ Some id → IsKnown rows id rank → AreKnown rows ids (slice_set ranks i rank)
  AreKnown-set [] ranks i rank known at is = tt
  AreKnown-set (x ∷ xs) [] i rank known at is = tt
  AreKnown-set (x ∷ xs) (r ∷ rs) zero rank known at is = (subst (λ y. IsKnown rows y rank) (sym (same_Some _ _ at)) is, known.1)
  AreKnown-set (x ∷ xs) (r ∷ rs) (suc i) rank known at is = (known.0, AreKnown-set xs rs i rank known.1 at is)

-- the ends of the line at a place stand there
pub ends_at : (lines : List Line) (i : ℕ) {line : Line} → slice_get lines i ≡ Some line
    → (slice_get (sources_of lines) i ≡ Some line.source) × (slice_get (targets_of lines) i ≡ Some line.target)
ends_at lines i at = (
  slice_get-map (λ l. l.source) lines i ∙ ap (option_map (λ l. l.source)) at,
  slice_get-map (λ l. l.target) lines i ∙ ap (option_map (λ l. l.target)) at,
)
