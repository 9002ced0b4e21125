-- Vertices that messages make, and totals that follow the run, worked: answers and needed executions of small graphs,
-- computed from the definitions.
use Rattle.std.proofs.Common.{◌≡◌, ℕ, ℤ, pos, [], ◌∷◌, None, Some, refl}
use Rattle.pg_graph.specs.Rows.{Rows}
use Rattle.pg_graph.specs.Handed.{EdgeList, Row}
use Rattle.pg_graph.specs.declared.missing.Missing.{Missing}
use Rattle.pg_graph.specs.declared.missing.Missing.TheVariants.{Drop, Create}
use Rattle.std.specs.Ordering.{int_eq}
use Rattle.pg_model.specs.Job.{Job}
use Rattle.pg_model.specs.Superstep.{visible_in, view_of, outcome, gathered_from, next}
use Rattle.pg_model.specs.Run.{first, configuration, length_from, executions_below, executions, answer}
use Rattle.pg_model.specs.Needed.{inputs_at, needed_below, needed_count}
use Rattle.pg_model.specs.Programs.{infinity, sssp, sssp_step, sssp_aggregators, pagerank, pagerank_step, pagerank_aggregators, pagerank_deciding}
use Rattle.pg_model.specs.Programs.{shed, shed_step, decides_nothing}
use Rattle.pg_model.specs.declared.run.Ending.TheVariants.{Finished, LimitReached}

abbrev from_1 : Missing → ℕ → Job ℤ ℤ
from_1 missing limit = record {
  program = sssp 1;
  combining = None;
  aggregators = sssp_aggregators;
  deciding = decides_nothing;
  missing = missing;
  limit = limit;
}

abbrev row : EdgeList → Row
row edges = record { input = pos 0; edges = edges }

-- ---- an edge to 2, which isn't there: its message makes it
abbrev two_hops : Rows
two_hops = (1, row ((2, pos 5) ∷ [])) ∷ (2, row ((3, pos 1) ∷ [])) ∷ (3, row []) ∷ []

abbrev removed : Rows
removed = (1, row ((2, pos 5) ∷ [])) ∷ (3, row []) ∷ []

created-answer : answer (from_1 Create 1000) removed ≡ record {
  values = (1, pos 0) ∷ (2, pos 5) ∷ (3, infinity) ∷ [];
  aggregates = pos 2 ∷ [];
  ending = Finished;
  supersteps = 2;
  sent = 1;
  dropped = 0;
}
unfolding first next configuration length_from executions_below answer visible_in view_of outcome gathered_from sssp_step
created-answer = refl

created-executions : executions (from_1 Create 1000) removed ≡ 3
unfolding first next configuration length_from executions_below answer visible_in view_of outcome gathered_from sssp_step
created-executions = refl

created-needed : needed_count int_eq int_eq (from_1 Create 1000) (Some two_hops) removed ≡ 1
unfolding first next configuration length_from executions_below answer visible_in view_of outcome gathered_from inputs_at needed_below sssp_step
created-needed = refl

-- ---- and then 2 is added
abbrev added : Rows
added = (1, row ((2, pos 5) ∷ [])) ∷ (2, row []) ∷ (3, row []) ∷ []

added-answer : answer (from_1 Create 1000) added ≡ record {
  values = (1, pos 0) ∷ (2, pos 5) ∷ (3, infinity) ∷ [];
  aggregates = pos 2 ∷ [];
  ending = Finished;
  supersteps = 2;
  sent = 1;
  dropped = 0;
}
unfolding first next configuration length_from executions_below answer visible_in view_of outcome gathered_from sssp_step
added-answer = refl

added-needed : needed_count int_eq int_eq (from_1 Create 1000) (Some removed) added ≡ 1
unfolding first next configuration length_from executions_below answer visible_in view_of outcome gathered_from inputs_at needed_below sssp_step
added-needed = refl

-- ---- a message that waits as the limit is reached makes no vertex; one that is dropped leaves the run finished
abbrev one : Rows
one = (1, row ((2, pos 5) ∷ [])) ∷ []

waiting-answer : answer (from_1 Create 1) one ≡ record {
  values = (1, pos 0) ∷ [];
  aggregates = pos 1 ∷ [];
  ending = LimitReached;
  supersteps = 1;
  sent = 1;
  dropped = 0;
}
unfolding first next configuration length_from executions_below answer visible_in view_of outcome gathered_from sssp_step
waiting-answer = refl

dropped-answer : answer (from_1 Drop 1) one ≡ record {
  values = (1, pos 0) ∷ [];
  aggregates = pos 1 ∷ [];
  ending = Finished;
  supersteps = 1;
  sent = 1;
  dropped = 1;
}
unfolding first next configuration length_from executions_below answer visible_in view_of outcome gathered_from sssp_step
dropped-answer = refl

-- ---- pagerank: the vertex that is made counts from the superstep after its first
abbrev ranking : Job ℤ ℤ
ranking = record {
  program = pagerank 2;
  combining = None;
  aggregators = pagerank_aggregators;
  deciding = pagerank_deciding (pos 0);
  missing = Create;
  limit = 1000;
}

abbrev pointing : Rows
pointing = (1, row ((2, pos 1) ∷ [])) ∷ []

ranks-answer : answer ranking pointing ≡ record {
  values = (1, pos 75000000000) ∷ (2, pos 202500000000) ∷ [];
  aggregates = pos 872500000000 ∷ [];
  ending = Finished;
  supersteps = 3;
  sent = 2;
  dropped = 0;
}
unfolding first next configuration length_from executions_below answer visible_in view_of outcome gathered_from pagerank_step
ranks-answer = refl

ranks-executions : executions ranking pointing ≡ 5
unfolding first next configuration length_from executions_below answer visible_in view_of outcome gathered_from pagerank_step
ranks-executions = refl

-- ---- shed: the edges are those that the superstep begins with
abbrev shedding : Job ℤ ℤ
shedding = record { program = shed; combining = None; aggregators = []; deciding = decides_nothing; missing = Drop; limit = 1000 }

abbrev three_edges : Rows
three_edges = (1, row ((2, pos 1) ∷ (3, pos 1) ∷ [])) ∷ (2, row ((3, pos 1) ∷ [])) ∷ (3, row []) ∷ []

abbrev edge_back : Rows
edge_back = (1, row ((2, pos 1) ∷ (3, pos 1) ∷ [])) ∷ (2, row ((3, pos 1) ∷ [])) ∷ (3, row ((1, pos 1) ∷ [])) ∷ []

abbrev edge_to_nobody : Rows
edge_to_nobody = (1, row ((2, pos 1) ∷ (3, pos 1) ∷ (4, pos 1) ∷ [])) ∷ (2, row ((3, pos 1) ∷ [])) ∷ (3, row []) ∷ []

three_edges-answer : answer shedding three_edges ≡ record {
  values = (1, pos 1) ∷ (2, pos 1) ∷ (3, pos 1) ∷ [];
  aggregates = [];
  ending = Finished;
  supersteps = 2;
  sent = 0;
  dropped = 0;
}
unfolding first next configuration length_from executions_below answer visible_in view_of outcome gathered_from shed_step
three_edges-answer = refl

three_edges-executions : executions shedding three_edges ≡ 6
unfolding first next configuration length_from executions_below answer visible_in view_of outcome gathered_from shed_step
three_edges-executions = refl

edge_back-answer : answer shedding edge_back ≡ record {
  values = (1, pos 1) ∷ (2, pos 1) ∷ (3, pos 1) ∷ [];
  aggregates = [];
  ending = Finished;
  supersteps = 2;
  sent = 0;
  dropped = 0;
}
unfolding first next configuration length_from executions_below answer visible_in view_of outcome gathered_from shed_step
edge_back-answer = refl

edge_back-needed : needed_count int_eq int_eq shedding (Some three_edges) edge_back ≡ 3
unfolding first next configuration length_from executions_below answer visible_in view_of outcome gathered_from inputs_at needed_below shed_step
edge_back-needed = refl

edge_to_nobody-answer : answer shedding edge_to_nobody ≡ record {
  values = (1, pos 2) ∷ (2, pos 2) ∷ (3, pos 2) ∷ [];
  aggregates = [];
  ending = Finished;
  supersteps = 2;
  sent = 0;
  dropped = 0;
}
unfolding first next configuration length_from executions_below answer visible_in view_of outcome gathered_from shed_step
edge_to_nobody-answer = refl

edge_to_nobody-needed : needed_count int_eq int_eq shedding (Some three_edges) edge_to_nobody ≡ 6
unfolding first next configuration length_from executions_below answer visible_in view_of outcome gathered_from inputs_at needed_below shed_step
edge_to_nobody-needed = refl
