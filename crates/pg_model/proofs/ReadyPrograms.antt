-- The other ready programs, worked: answers and needed executions of small graphs, computed from the definitions.
use Rattle.std.proofs.Common.{◌≡◌, ℕ, ℤ, pos, List, [], ◌∷◌, None, Some, refl}
use Rattle.std.specs.Ordering.{int_eq}
use Rattle.pg_graph.specs.Rows.{Rows}
use Rattle.pg_graph.specs.Handed.{EdgeList, Row}
use Rattle.pg_graph.specs.declared.missing.Missing.TheVariants.{Drop}
use Rattle.pg_model.specs.Job.{Job, Aggregating, Program}
use Rattle.pg_model.specs.Superstep.{visible_in, view_of, outcome, gathered_from, next}
use Rattle.pg_model.specs.Run.{first, configuration, length_from, executions_below, executions, answer}
use Rattle.pg_model.specs.Needed.{inputs_at, needed_below, needed_count}
use Rattle.pg_model.specs.Programs.{cc, cc_step, max_value, max_step, max_aggregators, indegree, indegree_step, indegree_aggregators, pagerank}
use Rattle.pg_model.specs.Programs.{pagerank_step, pagerank_aggregators, pagerank_deciding, peel, peel_step, peel_aggregators, tally, tally_step}
use Rattle.pg_model.specs.Programs.{decides_nothing}
use Rattle.pg_model.specs.declared.run.Ending.TheVariants.{MasterHalted, Finished}

abbrev plain : Program ℤ ℤ → List Aggregating → Job ℤ ℤ
plain program aggregators = record { program = program; combining = None; aggregators = aggregators; deciding = decides_nothing; missing = Drop; limit = 1000 }

abbrev row : EdgeList → Row
row edges = record { input = pos 0; edges = edges }

abbrev to : ℕ → ℕ × ℤ
to target = (target, pos 1)

-- ---- components: the path 1, 2, 3 with each edge both ways, and then without the edges between 1 and 2
abbrev components : Job ℤ ℤ
components = plain cc []

abbrev path : Rows
path = (1, row (to 2 ∷ [])) ∷ (2, row (to 1 ∷ to 3 ∷ [])) ∷ (3, row (to 2 ∷ [])) ∷ []

abbrev parted : Rows
parted = (1, row []) ∷ (2, row (to 3 ∷ [])) ∷ (3, row (to 2 ∷ [])) ∷ []

path-answer : answer components path ≡ record {
  values = (1, pos 1) ∷ (2, pos 1) ∷ (3, pos 1) ∷ [];
  aggregates = [];
  ending = Finished;
  supersteps = 4;
  sent = 8;
  dropped = 0;
}
unfolding first next configuration length_from executions_below answer visible_in view_of outcome gathered_from cc_step
path-answer = refl

path-executions : executions components path ≡ 10
unfolding first next configuration length_from executions_below answer visible_in view_of outcome gathered_from cc_step
path-executions = refl

parted-answer : answer components parted ≡ record {
  values = (1, pos 1) ∷ (2, pos 2) ∷ (3, pos 2) ∷ [];
  aggregates = [];
  ending = Finished;
  supersteps = 3;
  sent = 3;
  dropped = 0;
}
unfolding first next configuration length_from executions_below answer visible_in view_of outcome gathered_from cc_step
parted-answer = refl

parted-executions : executions components parted ≡ 6
unfolding first next configuration length_from executions_below answer visible_in view_of outcome gathered_from cc_step
parted-executions = refl

parted-needed : needed_count int_eq int_eq components (Some path) parted ≡ 4
unfolding first next configuration length_from executions_below answer visible_in view_of outcome gathered_from inputs_at needed_below cc_step
parted-needed = refl

-- ---- peeling with k 2: the triangle 1, 2, 3 and an edge to 4, each edge both ways, and then without the edges between 1 and 2
abbrev peeling : Job ℤ ℤ
peeling = plain (peel 2) peel_aggregators

abbrev triangle : Rows
triangle =
    (1, row (to 2 ∷ to 3 ∷ [])) ∷ (2, row (to 1 ∷ to 3 ∷ [])) ∷ (3, row (to 1 ∷ to 2 ∷ to 4 ∷ [])) ∷ (4, row (to 3 ∷ [])) ∷ []

abbrev star : Rows
star = (1, row (to 3 ∷ [])) ∷ (2, row (to 3 ∷ [])) ∷ (3, row (to 1 ∷ to 2 ∷ to 4 ∷ [])) ∷ (4, row (to 3 ∷ [])) ∷ []

triangle-answer : answer peeling triangle ≡ record {
  values = (1, pos 1) ∷ (2, pos 1) ∷ (3, pos 1) ∷ (4, pos 0) ∷ [];
  aggregates = pos 1 ∷ [];
  ending = Finished;
  supersteps = 2;
  sent = 1;
  dropped = 0;
}
unfolding first next configuration length_from executions_below answer visible_in view_of outcome gathered_from peel_step
triangle-answer = refl

triangle-executions : executions peeling triangle ≡ 5
unfolding first next configuration length_from executions_below answer visible_in view_of outcome gathered_from peel_step
triangle-executions = refl

star-answer : answer peeling star ≡ record {
  values = (1, pos 0) ∷ (2, pos 0) ∷ (3, pos 0) ∷ (4, pos 0) ∷ [];
  aggregates = pos 4 ∷ [];
  ending = Finished;
  supersteps = 2;
  sent = 3;
  dropped = 0;
}
unfolding first next configuration length_from executions_below answer visible_in view_of outcome gathered_from peel_step
star-answer = refl

star-executions : executions peeling star ≡ 5
unfolding first next configuration length_from executions_below answer visible_in view_of outcome gathered_from peel_step
star-executions = refl

star-needed : needed_count int_eq int_eq peeling (Some triangle) star ≡ 3
unfolding first next configuration length_from executions_below answer visible_in view_of outcome gathered_from inputs_at needed_below peel_step
star-needed = refl

-- ---- pagerank that ends once the ranks stay: 1 and 2 point at each other, and then with a vertex 3 against them
abbrev ranking : Job ℤ ℤ
ranking = record {
  program = pagerank 30;
  combining = None;
  aggregators = pagerank_aggregators;
  deciding = pagerank_deciding (pos 1);
  missing = Drop;
  limit = 1000;
}

abbrev pair : Rows
pair = (1, row (to 2 ∷ [])) ∷ (2, row (to 1 ∷ [])) ∷ []

abbrev three : Rows
three = (1, row (to 2 ∷ [])) ∷ (2, row (to 1 ∷ [])) ∷ (3, row []) ∷ []

pair-answer : answer ranking pair ≡ record {
  values = (1, pos 500000000000) ∷ (2, pos 500000000000) ∷ [];
  aggregates = pos 0 ∷ [];
  ending = MasterHalted;
  supersteps = 3;
  sent = 6;
  dropped = 0;
}
unfolding first next configuration length_from executions_below answer visible_in view_of outcome gathered_from pagerank_step
pair-answer = refl

pair-executions : executions ranking pair ≡ 6
unfolding first next configuration length_from executions_below answer visible_in view_of outcome gathered_from pagerank_step
pair-executions = refl

three-answer : answer ranking three ≡ record {
  values = (1, pos 333333333333) ∷ (2, pos 333333333333) ∷ (3, pos 50000000000) ∷ [];
  aggregates = pos 0 ∷ [];
  ending = MasterHalted;
  supersteps = 4;
  sent = 8;
  dropped = 0;
}
unfolding first next configuration length_from executions_below answer visible_in view_of outcome gathered_from pagerank_step
three-answer = refl

three-executions : executions ranking three ≡ 12
unfolding first next configuration length_from executions_below answer visible_in view_of outcome gathered_from pagerank_step
three-executions = refl

three-needed : needed_count int_eq int_eq ranking (Some pair) three ≡ 12
unfolding first next configuration length_from executions_below answer visible_in view_of outcome gathered_from inputs_at needed_below pagerank_step
three-needed = refl

-- ---- the inbox is by sender: 1 and 2, of inputs 10 and 20, both send to 3
abbrev tallying : Job (ℤ × List ℤ) ℤ
tallying = record { program = tally; combining = None; aggregators = []; deciding = decides_nothing; missing = Drop; limit = 1000 }

abbrev two_senders : Rows
two_senders =
    (1, record { input = pos 10; edges = to 3 ∷ [] }) ∷ (2, record { input = pos 20; edges = to 3 ∷ [] }) ∷ (3, row []) ∷ []

two_senders-answer : answer tallying two_senders ≡ record {
  values = (1, (pos 10, [])) ∷ (2, (pos 20, [])) ∷ (3, (pos 2, pos 10 ∷ pos 20 ∷ [])) ∷ [];
  aggregates = [];
  ending = Finished;
  supersteps = 2;
  sent = 2;
  dropped = 0;
}
unfolding first next configuration length_from executions_below answer visible_in view_of outcome gathered_from tally_step
two_senders-answer = refl

two_senders-executions : executions tallying two_senders ≡ 4
unfolding first next configuration length_from executions_below answer visible_in view_of outcome gathered_from tally_step
two_senders-executions = refl

-- ---- the greatest input that reaches a vertex, and the number of edges to each
abbrev inputs : Rows
inputs =
    (1, record { input = pos 7; edges = to 2 ∷ [] }) ∷ (2, record { input = pos 3; edges = to 3 ∷ [] }) ∷
    (3, record { input = pos 5; edges = to 2 ∷ to 9 ∷ [] }) ∷ []

greatest-answer : answer (plain max_value max_aggregators) inputs ≡ record {
  values = (1, pos 7) ∷ (2, pos 7) ∷ (3, pos 7) ∷ [];
  aggregates = pos 7 ∷ [];
  ending = Finished;
  supersteps = 4;
  sent = 7;
  dropped = 2;
}
unfolding first next configuration length_from executions_below answer visible_in view_of outcome gathered_from max_step
greatest-answer = refl

greatest-executions : executions (plain max_value max_aggregators) inputs ≡ 7
unfolding first next configuration length_from executions_below answer visible_in view_of outcome gathered_from max_step
greatest-executions = refl

degrees-answer : answer (plain indegree indegree_aggregators) inputs ≡ record {
  values = (1, pos 0) ∷ (2, pos 2) ∷ (3, pos 1) ∷ [];
  aggregates = pos 3 ∷ [];
  ending = Finished;
  supersteps = 2;
  sent = 4;
  dropped = 1;
}
unfolding first next configuration length_from executions_below answer visible_in view_of outcome gathered_from indegree_step
degrees-answer = refl

degrees-executions : executions (plain indegree indegree_aggregators) inputs ≡ 6
unfolding first next configuration length_from executions_below answer visible_in view_of outcome gathered_from indegree_step
degrees-executions = refl
