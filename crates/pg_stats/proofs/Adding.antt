-- What one more partition adds.
use Rattle.std.proofs.Common.{◌≡◌, ℕ, ℤ, ◌+◌, ◌-◌, ◌^◌, Bool, true, ◌&&◌, List, [], ◌∷◌, ◌++◌, sym, ap, ◌∙◌, arith, min, sum_by}
use Rattle.std.specs.List.{enumerate_from, list_all}
use Rattle.std.proofs.lemmas.List.{append-nil}
use Rattle.std.proofs.lemmas.List.Concat.{flat_map-append}
use Rattle.std.proofs.lemmas.List.Folds.{list_all-append}
use Rattle.std.proofs.lemmas.List.Sums.{sum_by_push}
use Rattle.pg_global.specs.Registry.{Registered}
use Rattle.pg_model.specs.Superstep.{capped, gathered_from}
use Rattle.pg_stats.specs.GlobalStats.{aggregators_of, gathered_by, is_idle, stats_of_all}
use Rattle.pg_stats.specs.declared.global_stats.GlobalStats.{GlobalStats}
use Rattle.pg_stats.specs.declared.stats.PartitionStats.{PartitionStats}

capped_push : {X : Type 0} (f : X → ℕ) (xs : List X) (x : X) → min (capped (sum_by f xs) + f x) (2 ^ 64 - 1) ≡ capped (sum_by f (xs ++ x ∷ []))
capped_push f xs x = omega (arith, sum_by_push f xs x)

all_push : {X : Type 0} (p : X → Bool) (xs : List X) (x : X) → (list_all p xs && p x) ≡ list_all p (xs ++ x ∷ [])
all_push p xs x = grind (arith, list_all-append p xs (x ∷ []))

-- these stats, with those of one more partition
pub record Adds (registered : Registered) (stats : PartitionStats) (before after : GlobalStats) : Type 0 where
  pub vertices : after.vertices ≡ before.vertices + stats.vertex_counts.vertices
  pub edges : after.edges ≡ min (before.edges + stats.vertex_counts.edges) (2 ^ 64 - 1)
  pub idle : after.is_idle ≡ (before.is_idle && is_idle stats)
  pub sent : after.sent ≡ min (before.sent + stats.message_counts.sent) (2 ^ 64 - 1)
  pub dropped : after.dropped ≡ min (before.dropped + stats.message_counts.dropped) (2 ^ 64 - 1)
  pub gathered : (visible : List ℤ) (contributed : List (ℕ × ℤ)) → before.gathered ≡ gathered_from 0 (aggregators_of registered) visible contributed
      → after.gathered ≡ gathered_from 0 (aggregators_of registered) visible (contributed ++ enumerate_from 0 stats.gathered)

pub stats_of_all-push : (registered : Registered) (stats : PartitionStats) (before after : GlobalStats) → Adds registered stats before after
    → (visible : List ℤ) (all : List PartitionStats) → before ≡ stats_of_all (aggregators_of registered) visible all
    → after ≡ stats_of_all (aggregators_of registered) visible (all ++ stats ∷ [])
unfolding stats_of_all
stats_of_all-push registered stats before after adds visible all is = λ i. record {
  vertices = vertices i;
  edges = edges i;
  is_idle = idle i;
  sent = sent i;
  dropped = dropped i;
  gathered = gathered i;
}
  where
    vertices : after.vertices ≡ sum_by (λ (s : PartitionStats). s.vertex_counts.vertices) (all ++ stats ∷ [])
    vertices =
        adds.vertices
        ∙ (ap (λ (g : GlobalStats). g.vertices + stats.vertex_counts.vertices) is ∙ sym (sum_by_push (λ (s : PartitionStats). s.vertex_counts.vertices) all stats))

    edges : after.edges ≡ capped (sum_by (λ (s : PartitionStats). s.vertex_counts.edges) (all ++ stats ∷ []))
    edges =
        adds.edges
        ∙ (ap (λ (g : GlobalStats). min (g.edges + stats.vertex_counts.edges) (2 ^ 64 - 1)) is ∙ capped_push (λ (s : PartitionStats). s.vertex_counts.edges) all stats)

    idle : after.is_idle ≡ list_all is_idle (all ++ stats ∷ [])
    idle = adds.idle ∙ (ap (λ (g : GlobalStats). g.is_idle && is_idle stats) is ∙ all_push is_idle all stats)

    sent : after.sent ≡ capped (sum_by (λ (s : PartitionStats). s.message_counts.sent) (all ++ stats ∷ []))
    sent =
        adds.sent
        ∙ (ap (λ (g : GlobalStats). min (g.sent + stats.message_counts.sent) (2 ^ 64 - 1)) is ∙ capped_push (λ (s : PartitionStats). s.message_counts.sent) all stats)

    dropped : after.dropped ≡ capped (sum_by (λ (s : PartitionStats). s.message_counts.dropped) (all ++ stats ∷ []))
    dropped =
        adds.dropped
        ∙ (ap (λ (g : GlobalStats). min (g.dropped + stats.message_counts.dropped) (2 ^ 64 - 1)) is ∙ capped_push
        (λ (s : PartitionStats). s.message_counts.dropped) all stats)

    gathered : after.gathered ≡ gathered_from 0 (aggregators_of registered) visible (gathered_by (all ++ stats ∷ []))
    gathered =
        adds.gathered visible (gathered_by all) (ap (λ (g : GlobalStats). g.gathered) is)
        ∙ ap (gathered_from 0 (aggregators_of registered) visible)
        (ap (λ l. gathered_by all ++ l) (sym (append-nil (enumerate_from 0 stats.gathered)))
        ∙ sym (flat_map-append (λ (s : PartitionStats). enumerate_from 0 s.gathered) all (stats ∷ [])))

-- what no partition comes to
pub stats_of_all-none : (registered : Registered) (visible gathered : List ℤ) → gathered ≡ gathered_from 0 (aggregators_of registered) visible []
    → record { vertices = 0; edges = 0; is_idle = true; sent = 0; dropped = 0; gathered = gathered } ≡ stats_of_all (aggregators_of registered) visible []
unfolding stats_of_all
stats_of_all-none registered visible gathered is = λ i. record { vertices = 0; edges = 0; is_idle = true; sent = 0; dropped = 0; gathered = is i }
