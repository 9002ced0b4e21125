use Rattle.std.proofs.Common.{arith, rules}
use Rattle.std.proofs.lemmas.Grind.{common_steps}
use Rattle.pg_model.specs.Programs.{pagerank_step}
use Rattle.pregeld_programs.proofs.pagerank.PagerankComputation.compute.Goals as goal

pub returns : goal.returns
unfolding pagerank_step
returns c = record { vertex_is = search rules; context_is = grind (arith, common_steps) }
