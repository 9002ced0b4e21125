-- What a service runs.
use Rattle.std.specs.Prelude.{◌≡◌, true, [], Option, None}
use Rattle.pg_workers.specs.Handed.{Limits}
use Rattle.pg_global.specs.Master.{Master, is_registered, job_of}
use Rattle.pg_global.specs.Registry.{Registered, first_refusal}
use Rattle.pg_model.specs.Job.{Combining, Job, Program}

-- a program with its combiner and its master, and the numbers of its runs
pub record ServiceJob (P C A : Type 0) : Type 0 where
  pub program : P
  pub combiner : C
  pub master : A
  pub limits : Limits

-- the job that they make, by what program, combiner and master mean
abbrev pub job_of_service : {P C A V M : Type 0}
    → (P → Program V M) → (C → Option (Combining M)) → (A → Master) → ServiceJob P C A → Job V M
job_of_service program combining master job =
    job_of (program job.program) (combining job.combiner) (master job.master)
    job.limits.missing job.limits.limit

-- the aggregators that it has, by name, in the order of their places
abbrev pub registered_by : {P C A : Type 0} → (A → Master) → ServiceJob P C A → Registered
registered_by master job = (master job.master).registrations

-- the master's aggregators can be registered, and each place that the program declares is among them
pub record CanRun {V M : Type 0} (program : Program V M) (master : Master) : Type 0 where
  pub lawful : first_refusal [] master.registrations ≡ None
  pub registered : is_registered program master ≡ true
