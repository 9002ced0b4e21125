-- What a superstep comes to in all partitions together (Giraph's global statistics).
use Rattle.std.specs.Prelude.{◌≡◌, ℕ, ◌+◌, ◌==◌, nat_le, Bool, ◌&&◌, List, map, ℤ}
use Rattle.std.specs.List.{enumerate_from, flat_map, list_all, sum_by}
use Rattle.pg_global.specs.Registry.{Registered, aggregating_of}
use Rattle.pg_model.specs.Job.{Aggregating}
use Rattle.pg_model.specs.Superstep.{capped, gathered_from, is_all_idle, totals_of}
use Rattle.pg_model.specs.declared.configuration.Configuration.{Configuration}
use Rattle.pg_stats.specs.declared.global_stats.GlobalStats.{GlobalStats}
use Rattle.pg_stats.specs.declared.stats.PartitionStats.{PartitionStats}

abbrev pub aggregators_of : Registered → List Aggregating
aggregators_of registered = map (λ e. aggregating_of e.1) registered

-- all in a partition are halted, and none of the messages that it sent arrives
abbrev pub is_idle : PartitionStats → Bool
is_idle stats = (stats.vertex_counts.unhalted == 0) && nat_le stats.message_counts.sent stats.message_counts.dropped

-- what partitions have gathered, as contributions to the places
abbrev pub gathered_by : List PartitionStats → List (ℕ × ℤ)
gathered_by all = flat_map (λ stats. enumerate_from 0 stats.gathered) all

-- what partitions have come to together, where these values were visible in the superstep before
unfoldable pub stats_of_all : List Aggregating → List ℤ → List PartitionStats → GlobalStats
stats_of_all aggregators visible all = record {
  vertices = sum_by (λ stats. stats.vertex_counts.vertices) all;
  edges = capped (sum_by (λ stats. stats.vertex_counts.edges) all);
  is_idle = list_all is_idle all;
  sent = capped (sum_by (λ stats. stats.message_counts.sent) all);
  dropped = capped (sum_by (λ stats. stats.message_counts.dropped) all);
  gathered = gathered_from 0 aggregators visible (gathered_by all);
}

-- these stats are those of the configuration c, as a superstep begins
pub record AreStatsOf {V M : Type 0} (c : Configuration V M) (stats : GlobalStats) : Type 0 where
  pub totals : record { vertices = stats.vertices; edges = stats.edges } ≡ totals_of c
  pub idle : stats.is_idle ≡ is_all_idle c
  pub gathered : stats.gathered ≡ c.gathered

-- these stats are those of the superstep that began with c and ended with d
pub record AreStatsBetween {V M : Type 0} (c d : Configuration V M) (stats : GlobalStats) : Type 0 where
  pub ended : AreStatsOf d stats
  pub sent : capped (c.sent + stats.sent) ≡ d.sent
  pub dropped : capped (c.dropped + stats.dropped) ≡ d.dropped
