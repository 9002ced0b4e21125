-- The job that the options of the command line ask for.
use Rattle.pg_service.specs.Handed.{Limits}
use Rattle.pregeld_args.specs.Arguments.{program_in}
use Rattle.pregeld_args.specs.declared.options.Options.{Options}
use Rattle.pregeld.specs.Job.{ReadyJob}

-- the numbers of its runs
abbrev pub limits_in : Options → Limits
limits_in options = record {
  partitions = options.partitions;
  workers = options.workers;
  limit = options.limit;
  every = options.every;
  max_losses = options.losses;
  missing = options.missing;
}

abbrev pub job_of_options : Options → ReadyJob
job_of_options options = record {
  program = program_in options.program options;
  combiner = options.combiner;
  master = record { program = program_in options.program options };
  limits = limits_in options;
}
