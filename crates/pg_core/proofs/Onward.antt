-- A run that is driven on has the job that it had.
use Rattle.std.proofs.Common.{◌≡◌, Option}
use Rattle.pg_core.specs.Driving.{IsSameRun}
use Rattle.pg_core.specs.Progress.{Progress, job_of_core}
use Rattle.pg_core_machine.specs.Limits.{Limits}
use Rattle.pg_global.specs.Master.{Master, job_of}
use Rattle.pg_model.specs.Job.{Combining, Program}

module _ {P C A V M : Type 0} (program_of : P → Program V M) (combining_of : C → Option (Combining M)) (master_of : A → Master) where
  pub job_same : (a b : Progress P C A V M) → IsSameRun a b → job_of_core program_of combining_of master_of b ≡ job_of_core program_of combining_of master_of a
  job_same a b same = λ i.
      let l : Limits = same.limits_are i in
      job_of (program_of (same.program_is i)) (combining_of (same.combiner_is i)) (master_of (same.master_is i)) l.missing l.limit
