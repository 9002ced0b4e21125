-- The ready programs: what each has declared, the value that a vertex begins with, and its step.
use Rattle.std.specs.Prelude.{ℕ, ◌==◌, nat_lt, nat_le, Bool, true, false, cond, ◌&&◌, ◌||◌, not, List, [], ◌∷◌, map}
use Rattle.std.specs.Prelude.{length, min, drop, ℤ, pos, ◌+ℤ◌}
use Rattle.std.specs.Prelude.{◌-ℤ◌, ◌*ℤ◌, int_lt, int_le, int_div, nat_abs}
use Rattle.std.specs.Option.{unwrap_or}
use Rattle.std.specs.Ordering.{int_eq}
use Rattle.std.specs.Int.{w64, int_min, int_max, int_wrapping_add, saturate_signed}
use Rattle.std.specs.List.{fold, slice_get}
use Rattle.pg_graph.specs.Handed.{EdgeList, without_edge}
use Rattle.pg_model.specs.Aggregators.{greatest_number, long_sum, long_max}
use Rattle.pg_model.specs.Job.{Inputs, Program, Aggregating, Deciding}
use Rattle.pg_model.specs.Superstep.{is_empty}
use Rattle.pg_model.specs.declared.record.Record.{Record}
use Rattle.pg_model.specs.declared.view.Declared.{Declared}

-- no distance
abbrev pub infinity : ℤ
infinity = greatest_number

-- the same message to the target of each edge
abbrev pub to_all : ℤ → EdgeList → List (ℕ × ℤ)
to_all message edges = map (λ e. (e.0, message)) edges

-- a value contributed to the aggregator at place 0
abbrev pub contributed : ℤ → List (ℕ × ℤ)
contributed value = (0, value) ∷ []

-- the least of a value and all messages, and the greatest
abbrev pub least_of : ℤ → List ℤ → ℤ
least_of value messages = fold int_min value messages

abbrev pub greatest_of : ℤ → List ℤ → ℤ
greatest_of value messages = fold int_max value messages

-- a program that reads no aggregate and no total, and contributes to these places
abbrev pub only_writes : ℕ → Declared
only_writes places = record { reads = 0; writes = places; total_vertices = false; total_edges = false }

-- ---- sssp: the distance from one source (Pregel, section 5.2)
unfoldable pub sssp_step : ℕ → Inputs ℤ ℤ → Record ℤ ℤ
sssp_step source i =
    let distance : ℤ = least_of (cond (i.id == source) (pos 0) infinity) i.inbox in
    let is_nearer : Bool = int_lt distance i.value in
    record {
      value = cond is_nearer distance i.value;
      edges = i.edges;
      halted = true;
      sent = cond is_nearer (map (λ e. (e.0, saturate_signed w64 (distance +ℤ e.1))) i.edges) [];
      contributed = cond (is_nearer && int_eq i.value infinity) (contributed (pos 1)) [];
    }

abbrev pub sssp : ℕ → Program ℤ ℤ
sssp source = record { declared = only_writes 1; initial = λ id input. infinity; step = sssp_step source }

-- how many vertices are reached
abbrev pub sssp_aggregators : List Aggregating
sssp_aggregators = long_sum true ∷ []

-- ---- cc: the least id of each component
unfoldable pub cc_step : Inputs ℤ ℤ → Record ℤ ℤ
cc_step i =
    let is_first : Bool = i.view.superstep == 0 in
    let least : ℤ = cond is_first i.value (least_of i.value i.inbox) in
    record {
      value = least;
      edges = i.edges;
      halted = true;
      sent = cond (is_first || int_lt least i.value) (to_all least i.edges) [];
      contributed = [];
    }

abbrev pub cc : Program ℤ ℤ
cc = record { declared = only_writes 0; initial = λ id input. pos id; step = cc_step }

-- ---- max: the greatest input that reaches a vertex (Pregel, section 2)
unfoldable pub max_step : Inputs ℤ ℤ → Record ℤ ℤ
max_step i =
    let is_first : Bool = i.view.superstep == 0 in
    let greatest : ℤ = cond is_first i.value (greatest_of i.value i.inbox) in
    let tells : Bool = is_first || int_lt i.value greatest in
    record {
      value = greatest;
      edges = i.edges;
      halted = true;
      sent = cond tells (to_all greatest i.edges) [];
      contributed = cond tells (contributed greatest) [];
    }

abbrev pub max_value : Program ℤ ℤ
max_value = record { declared = only_writes 1; initial = λ id input. input; step = max_step }

abbrev pub max_aggregators : List Aggregating
max_aggregators = long_max true ∷ []

-- ---- indegree: the number of messages
unfoldable pub indegree_step : Inputs ℤ ℤ → Record ℤ ℤ
indegree_step i =
    let is_first : Bool = i.view.superstep == 0 in
    let degree : ℤ = pos (length i.inbox) in
    record {
      value = cond is_first i.value degree;
      edges = i.edges;
      halted = not is_first;
      sent = cond is_first (to_all (pos 1) i.edges) [];
      contributed = cond is_first [] (contributed degree);
    }

abbrev pub indegree : Program ℤ ℤ
indegree = record { declared = only_writes 1; initial = λ id input. pos 0; step = indegree_step }

abbrev pub indegree_aggregators : List Aggregating
indegree_aggregators = long_sum true ∷ []

-- ---- pagerank (Pregel, section 5.1), with 1,000,000,000,000 for one whole
abbrev pub vertices_seen : Inputs ℤ ℤ → ℤ
vertices_seen i = let n : ℕ = unwrap_or i.view.total_vertices 1 in pos (cond (n == 0) 1 n)

abbrev pub rank_of : Inputs ℤ ℤ → ℤ
rank_of i =
    let sum : ℤ = fold (int_wrapping_add w64) (pos 0) i.inbox in
    saturate_signed w64 (int_div (pos 150000000000) (vertices_seen i) +ℤ int_div (sum *ℤ pos 85) (pos 100))

unfoldable pub pagerank_step : ℕ → Inputs ℤ ℤ → Record ℤ ℤ
pagerank_step rounds i =
    let is_first : Bool = i.view.superstep == 0 in
    let rank : ℤ = cond is_first (int_div (pos 1000000000000) (vertices_seen i)) (rank_of i) in
    let goes_on : Bool = nat_lt i.view.superstep rounds in
    record {
      value = rank;
      edges = i.edges;
      halted = not goes_on;
      sent = cond (goes_on && not (is_empty i.edges)) (to_all (int_div rank (pos (length i.edges))) i.edges) [];
      contributed = cond is_first [] (contributed (saturate_signed w64 (pos (nat_abs (rank -ℤ i.value)))));
    }

abbrev pub pagerank : ℕ → Program ℤ ℤ
pagerank rounds = record {
  declared = record { reads = 0; writes = 1; total_vertices = true; total_edges = false };
  initial = λ id input. pos 0;
  step = pagerank_step rounds;
}

-- by how much the ranks changed
abbrev pub pagerank_aggregators : List Aggregating
pagerank_aggregators = long_sum false ∷ []

-- the run ends once the ranks change by no more than this, where it is above 0
abbrev pub pagerank_deciding : ℤ → Deciding
pagerank_deciding least_change s totals gathered =
    let change : ℤ = unwrap_or (slice_get gathered 0) (pos 0) in
    record {
      values = gathered;
      halt = nat_le 2 s && (int_lt (pos 0) least_change && (int_le (pos 0) change && int_le change least_change));
    }

-- a master that sets nothing and never halts
abbrev pub decides_nothing : Deciding
decides_nothing s totals gathered = record { values = gathered; halt = false }

-- ---- peel: 1 for the vertices of the k-core, 0 for those that are removed
abbrev pub edges_left : EdgeList → List ℤ → EdgeList
edges_left edges messages =
    fold (λ remaining m. cond (int_le (pos 0) m) (without_edge (nat_abs m) remaining) remaining) edges messages

unfoldable pub peel_step : ℕ → Inputs ℤ ℤ → Record ℤ ℤ
peel_step k i =
    let remaining : EdgeList = edges_left i.edges i.inbox in
    let is_removed : Bool = int_eq i.value (pos 1) && nat_lt (length remaining) k in
    record {
      value = cond is_removed (pos 0) i.value;
      edges = remaining;
      halted = true;
      sent = cond is_removed (to_all (pos i.id) remaining) [];
      contributed = cond is_removed (contributed (pos 1)) [];
    }

abbrev pub peel : ℕ → Program ℤ ℤ
peel k = record { declared = only_writes 1; initial = λ id input. pos 1; step = peel_step k }

abbrev pub peel_aggregators : List Aggregating
peel_aggregators = long_sum true ∷ []

-- ---- Tally: the number of messages, and the messages
unfoldable pub tally_step : Inputs (ℤ × List ℤ) ℤ → Record (ℤ × List ℤ) ℤ
tally_step i =
    let is_first : Bool = i.view.superstep == 0 in
    record {
      value = cond is_first i.value (pos (length i.inbox), i.inbox);
      edges = i.edges;
      halted = true;
      sent = cond is_first (to_all i.value.0 i.edges) [];
      contributed = [];
    }

abbrev pub tally : Program (ℤ × List ℤ) ℤ
tally = record { declared = only_writes 0; initial = λ id input. (input, []); step = tally_step }

-- ---- Shed: a vertex takes away its first edge, and then tells how many edges remain in all
unfoldable pub shed_step : Inputs ℤ ℤ → Record ℤ ℤ
shed_step i =
    let is_first : Bool = i.view.superstep == 0 in
    record {
      value = cond is_first i.value (pos (min (unwrap_or i.view.total_edges 0) 9223372036854775807));
      edges = cond is_first (drop 1 i.edges) i.edges;
      halted = not is_first;
      sent = [];
      contributed = [];
    }

abbrev pub shed : Program ℤ ℤ
shed = record {
  declared = record { reads = 0; writes = 0; total_vertices = false; total_edges = true };
  initial = λ id input. input;
  step = shed_step;
}
