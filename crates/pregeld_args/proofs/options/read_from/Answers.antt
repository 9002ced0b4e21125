use Rattle.std.proofs.Common.{rules}
use Rattle.pregeld_args.proofs.options.read_from.Goals as goal

pub returns-clause-some : goal.returns-clause-some
returns-clause-some c = record {
  program_is = search rules;
  source_is = search rules;
  k_is = search rules;
  rounds_is = search rules;
  eps = c.in_ok-eps.eps;
  eps_is = search rules;
  eps_in = search rules;
  combiner_is = search rules;
  partitions_are = search rules;
  workers_are = search rules;
  limit_is = search rules;
  every_is = search rules;
  losses_are = search rules;
  missing_is = search rules;
}
