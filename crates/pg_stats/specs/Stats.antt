-- What a superstep comes to in one partition (Giraph's partition statistics).
use Rattle.std.specs.Prelude.{ℕ, zero, suc, ◌+◌, not, List, [], ◌∷◌, map, length, ℤ}
use Rattle.std.specs.List.{fold, sum_by, count_by}
use Rattle.pg_graph.specs.Rows.{Rows}
use Rattle.pg_model.specs.Job.{Aggregating, Job}
use Rattle.pg_model.specs.Run.{present_at, view_at}
use Rattle.pg_model.specs.Share.{present_in_share, with_inboxes_of_share}
use Rattle.pg_model.specs.Superstep.{undeliverable, at_place, contributions, dropped_count, ids, sends}
use Rattle.pg_model.specs.declared.configuration.VertexState.{VertexState}
use Rattle.pg_stats.specs.declared.stats.VertexCounts.{VertexCounts}
use Rattle.pg_stats.specs.declared.stats.PartitionStats.{PartitionStats}
use Rattle.pg_stats.specs.declared.stats.MessageCounts.{MessageCounts}

-- how many vertices these are, how many out-edges they have, and how many of them aren't halted
abbrev pub vertex_counts_of : {V : Type 0} → List (VertexState V) → VertexCounts
vertex_counts_of states = record {
  vertices = length states;
  edges = sum_by (λ x. length x.edges) states;
  unhalted = count_by (λ x. not x.halted) states;
}

-- what contributions come to at the aggregators from `place` on, each from its initial value
abbrev pub gathered_afresh : ℕ → List Aggregating → List (ℕ × ℤ) → List ℤ
gathered_afresh place [] contributions = []
gathered_afresh place (a ∷ rest) contributions =
    fold a.aggregate a.initial (at_place place contributions) ∷ gathered_afresh (place + 1) rest contributions

module _ {V M : Type 0} (job : Job V M) (rows : Rows) (n p : ℕ) where
  -- the vertices of partition p as superstep s begins
  abbrev pub vertex_counts_at : ℕ → VertexCounts
  vertex_counts_at s = vertex_counts_of (map (λ x. x.state) (with_inboxes_of_share job rows n p s))

  -- what they send in it
  abbrev pub sent_in : ℕ → List (ℕ × M)
  sent_in s = sends job.program (view_at job rows s) (present_in_share job rows n p s)

  abbrev pub message_counts_in : ℕ → MessageCounts
  message_counts_in s = record {
    sent = length (sent_in s);
    dropped = dropped_count job.missing (undeliverable (ids (present_at job rows s)) (sent_in s));
  }

  -- what they contribute in it comes to
  abbrev pub gathered_in : ℕ → List ℤ
  gathered_in s = gathered_afresh 0 job.aggregators
      (contributions job.program (view_at job rows s) (present_in_share job rows n p s))

  -- what partition p has come to as superstep s begins
  unfoldable pub stats_at : ℕ → PartitionStats
  stats_at zero = record {
    vertex_counts = vertex_counts_at 0;
    message_counts = record { sent = 0; dropped = 0 };
    gathered = map (λ a. a.initial) job.aggregators;
  }
  stats_at (suc s) = record {
    vertex_counts = vertex_counts_at (suc s);
    message_counts = message_counts_in s;
    gathered = gathered_in s;
  }
