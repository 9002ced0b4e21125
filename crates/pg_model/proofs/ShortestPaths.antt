-- Shortest paths, worked: answers and needed executions of small graphs, computed from the definitions.
use Rattle.std.proofs.Common.{◌≡◌, ℕ, ℤ, pos, negsuc, [], ◌∷◌, Option, None, Some, refl}
use Rattle.pg_graph.specs.Rows.{Rows}
use Rattle.pg_graph.specs.Handed.{EdgeList, Row}
use Rattle.pg_graph.specs.declared.missing.Missing.TheVariants.{Drop}
use Rattle.std.specs.Ordering.{int_eq}
use Rattle.pg_model.specs.Aggregators.{least_message}
use Rattle.pg_model.specs.Job.{Job, Combining}
use Rattle.pg_model.specs.Superstep.{visible_in, view_of, outcome, gathered_from, next}
use Rattle.pg_model.specs.Run.{first, configuration, length_from, executions_below, executions, answer}
use Rattle.pg_model.specs.Needed.{inputs_at, needed_below, needed_count}
use Rattle.pg_model.specs.Programs.{infinity, sssp, sssp_step, sssp_aggregators, decides_nothing}
use Rattle.pg_model.specs.declared.run.Ending.TheVariants.{Finished, LimitReached}

abbrev from_1 : Option (Combining ℤ) → ℕ → Job ℤ ℤ
from_1 combining limit = record {
  program = sssp 1;
  combining = combining;
  aggregators = sssp_aggregators;
  deciding = decides_nothing;
  missing = Drop;
  limit = limit;
}

abbrev row : EdgeList → Row
row edges = record { input = pos 0; edges = edges }

-- how many executions a run needs against a run that was kept
abbrev needed : Option (Combining ℤ) → Rows → Rows → ℕ
needed combining kept rows = needed_count int_eq int_eq (from_1 combining 1000) (Some kept) rows

-- ---- 1 to 2 of weight 5, 2 to 3 of weight 1
abbrev two_hops : Rows
two_hops = (1, row ((2, pos 5) ∷ [])) ∷ (2, row ((3, pos 1) ∷ [])) ∷ (3, row []) ∷ []

two_hops-answer : answer (from_1 None 1000) two_hops ≡ record {
  values = (1, pos 0) ∷ (2, pos 5) ∷ (3, pos 6) ∷ [];
  aggregates = pos 3 ∷ [];
  ending = Finished;
  supersteps = 3;
  sent = 2;
  dropped = 0;
}
unfolding first next configuration length_from executions_below answer visible_in view_of outcome gathered_from sssp_step
two_hops-answer = refl

two_hops-executions : executions (from_1 None 1000) two_hops ≡ 5
unfolding first next configuration length_from executions_below answer visible_in view_of outcome gathered_from sssp_step
two_hops-executions = refl

-- the limit is tested last

two_hops-limit_1-answer : answer (from_1 None 1) two_hops ≡ record {
  values = (1, pos 0) ∷ (2, infinity) ∷ (3, infinity) ∷ [];
  aggregates = pos 1 ∷ [];
  ending = LimitReached;
  supersteps = 1;
  sent = 1;
  dropped = 0;
}
unfolding first next configuration length_from executions_below answer visible_in view_of outcome gathered_from sssp_step
two_hops-limit_1-answer = refl

two_hops-limit_1-executions : executions (from_1 None 1) two_hops ≡ 3
unfolding first next configuration length_from executions_below answer visible_in view_of outcome gathered_from sssp_step
two_hops-limit_1-executions = refl

two_hops-limit_3-answer : answer (from_1 None 3) two_hops ≡ record {
  values = (1, pos 0) ∷ (2, pos 5) ∷ (3, pos 6) ∷ [];
  aggregates = pos 3 ∷ [];
  ending = Finished;
  supersteps = 3;
  sent = 2;
  dropped = 0;
}
unfolding first next configuration length_from executions_below answer visible_in view_of outcome gathered_from sssp_step
two_hops-limit_3-answer = refl

two_hops-limit_3-executions : executions (from_1 None 3) two_hops ≡ 5
unfolding first next configuration length_from executions_below answer visible_in view_of outcome gathered_from sssp_step
two_hops-limit_3-executions = refl

-- ---- with an edge from 1 to 3 of weight 2
abbrev shortcut : Rows
shortcut = (1, row ((2, pos 5) ∷ (3, pos 2) ∷ [])) ∷ (2, row ((3, pos 1) ∷ [])) ∷ (3, row []) ∷ []

shortcut-answer : answer (from_1 None 1000) shortcut ≡ record {
  values = (1, pos 0) ∷ (2, pos 5) ∷ (3, pos 2) ∷ [];
  aggregates = pos 3 ∷ [];
  ending = Finished;
  supersteps = 3;
  sent = 3;
  dropped = 0;
}
unfolding first next configuration length_from executions_below answer visible_in view_of outcome gathered_from sssp_step
shortcut-answer = refl

shortcut-executions : executions (from_1 None 1000) shortcut ≡ 6
unfolding first next configuration length_from executions_below answer visible_in view_of outcome gathered_from sssp_step
shortcut-executions = refl

shortcut-needed : needed None two_hops shortcut ≡ 3
unfolding first next configuration length_from executions_below answer visible_in view_of outcome gathered_from sssp_step inputs_at needed_below
shortcut-needed = refl

-- ---- and then without the one from 1 to 2
abbrev retracted : Rows
retracted = (1, row ((3, pos 2) ∷ [])) ∷ (2, row ((3, pos 1) ∷ [])) ∷ (3, row []) ∷ []

retracted-answer : answer (from_1 None 1000) retracted ≡ record {
  values = (1, pos 0) ∷ (2, infinity) ∷ (3, pos 2) ∷ [];
  aggregates = pos 2 ∷ [];
  ending = Finished;
  supersteps = 2;
  sent = 1;
  dropped = 0;
}
unfolding first next configuration length_from executions_below answer visible_in view_of outcome gathered_from sssp_step
retracted-answer = refl

retracted-executions : executions (from_1 None 1000) retracted ≡ 4
unfolding first next configuration length_from executions_below answer visible_in view_of outcome gathered_from sssp_step
retracted-executions = refl

retracted-needed : needed None shortcut retracted ≡ 1
unfolding first next configuration length_from executions_below answer visible_in view_of outcome gathered_from sssp_step inputs_at needed_below
retracted-needed = refl

-- ---- touched and restored: the same graph again needs nothing

restored-needed : needed None two_hops two_hops ≡ 0
unfolding first next configuration length_from executions_below answer visible_in view_of outcome gathered_from sssp_step inputs_at needed_below
restored-needed = refl

-- ---- without vertex 2, whose message is dropped
abbrev removed : Rows
removed = (1, row ((2, pos 5) ∷ [])) ∷ (3, row []) ∷ []

removed-answer : answer (from_1 None 1000) removed ≡ record {
  values = (1, pos 0) ∷ (3, infinity) ∷ [];
  aggregates = pos 1 ∷ [];
  ending = Finished;
  supersteps = 1;
  sent = 1;
  dropped = 1;
}
unfolding first next configuration length_from executions_below answer visible_in view_of outcome gathered_from sssp_step
removed-answer = refl

removed-executions : executions (from_1 None 1000) removed ≡ 2
unfolding first next configuration length_from executions_below answer visible_in view_of outcome gathered_from sssp_step
removed-executions = refl

removed-needed : needed None two_hops removed ≡ 0
unfolding first next configuration length_from executions_below answer visible_in view_of outcome gathered_from sssp_step inputs_at needed_below
removed-needed = refl

-- ---- two ways to 4, with the least message for all, and with an edge more
abbrev fork : Rows
fork = (1, row ((2, pos 1) ∷ (3, pos 1) ∷ [])) ∷ (2, row ((4, pos 1) ∷ [])) ∷ (3, row []) ∷ (4, row []) ∷ []

abbrev diamond : Rows
diamond = (1, row ((2, pos 1) ∷ (3, pos 1) ∷ [])) ∷ (2, row ((4, pos 1) ∷ [])) ∷ (3, row ((4, pos 5) ∷ [])) ∷ (4, row []) ∷ []

fork-answer : answer (from_1 (Some least_message) 1000) fork ≡ record {
  values = (1, pos 0) ∷ (2, pos 1) ∷ (3, pos 1) ∷ (4, pos 2) ∷ [];
  aggregates = pos 4 ∷ [];
  ending = Finished;
  supersteps = 3;
  sent = 3;
  dropped = 0;
}
unfolding first next configuration length_from executions_below answer visible_in view_of outcome gathered_from sssp_step
fork-answer = refl

fork-executions : executions (from_1 (Some least_message) 1000) fork ≡ 7
unfolding first next configuration length_from executions_below answer visible_in view_of outcome gathered_from sssp_step
fork-executions = refl

diamond-answer : answer (from_1 (Some least_message) 1000) diamond ≡ record {
  values = (1, pos 0) ∷ (2, pos 1) ∷ (3, pos 1) ∷ (4, pos 2) ∷ [];
  aggregates = pos 4 ∷ [];
  ending = Finished;
  supersteps = 3;
  sent = 4;
  dropped = 0;
}
unfolding first next configuration length_from executions_below answer visible_in view_of outcome gathered_from sssp_step
diamond-answer = refl

diamond-executions : executions (from_1 (Some least_message) 1000) diamond ≡ 7
unfolding first next configuration length_from executions_below answer visible_in view_of outcome gathered_from sssp_step
diamond-executions = refl

diamond-combined-needed : needed (Some least_message) fork diamond ≡ 2
unfolding first next configuration length_from executions_below answer visible_in view_of outcome gathered_from sssp_step inputs_at needed_below
diamond-combined-needed = refl

diamond-needed : needed None fork diamond ≡ 3
unfolding first next configuration length_from executions_below answer visible_in view_of outcome gathered_from sssp_step inputs_at needed_below
diamond-needed = refl

-- ---- no vertex

empty-answer : answer (from_1 None 1000) [] ≡ record { values = []; aggregates = pos 0 ∷ []; ending = Finished; supersteps = 1; sent = 0; dropped = 0 }
unfolding first next configuration length_from executions_below answer visible_in view_of outcome gathered_from sssp_step
empty-answer = refl

empty-executions : executions (from_1 None 1000) [] ≡ 0
unfolding first next configuration length_from executions_below answer visible_in view_of outcome gathered_from sssp_step
empty-executions = refl

-- ---- distances saturate: a loop of weight -1, and a path past the greatest number
abbrev loop : Rows
loop = (1, row ((1, negsuc 0) ∷ [])) ∷ []

abbrev far : Rows
far = (1, row ((2, infinity) ∷ [])) ∷ (2, row ((3, pos 1) ∷ [])) ∷ (3, row []) ∷ []

loop-answer : answer (from_1 None 4) loop ≡ record {
  values = (1, negsuc 2) ∷ [];
  aggregates = pos 1 ∷ [];
  ending = LimitReached;
  supersteps = 4;
  sent = 4;
  dropped = 0;
}
unfolding first next configuration length_from executions_below answer visible_in view_of outcome gathered_from sssp_step
loop-answer = refl

loop-executions : executions (from_1 None 4) loop ≡ 4
unfolding first next configuration length_from executions_below answer visible_in view_of outcome gathered_from sssp_step
loop-executions = refl

far-answer : answer (from_1 None 1000) far ≡ record {
  values = (1, pos 0) ∷ (2, infinity) ∷ (3, infinity) ∷ [];
  aggregates = pos 1 ∷ [];
  ending = Finished;
  supersteps = 2;
  sent = 1;
  dropped = 0;
}
unfolding first next configuration length_from executions_below answer visible_in view_of outcome gathered_from sssp_step
far-answer = refl

far-executions : executions (from_1 None 1000) far ≡ 4
unfolding first next configuration length_from executions_below answer visible_in view_of outcome gathered_from sssp_step
far-executions = refl
