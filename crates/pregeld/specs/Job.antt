-- What a session runs: a ready program with its master.
use Rattle.std.specs.Prelude.{ℤ}
use Rattle.pg_global.specs.Combiner.{combining_of}
use Rattle.pg_global.specs.Master.{Master}
use Rattle.pg_global.specs.Registry.{Registered}
use Rattle.pg_global.specs.declared.combiner.AnyCombiner.{AnyCombiner}
use Rattle.pg_model.specs.Job.{Job}
use Rattle.pregeld_programs.specs.Ready.{master_of, program_of}
use Rattle.pregeld_programs.specs.declared.ready.ReadyMaster.{ReadyMaster}
use Rattle.pregeld_programs.specs.declared.ready.ReadyProgram.{ReadyProgram}
use Rattle.pg_service.specs.Job.{ServiceJob, job_of_service, registered_by}
use Rattle.pg_service.specs.Service.{ServiceState}

abbrev pub ReadyJob : Type 0
ReadyJob = ServiceJob ReadyProgram AnyCombiner ReadyMaster

-- a service of it
abbrev pub ReadyState : Type 0
ReadyState = ServiceState ReadyProgram AnyCombiner ReadyMaster ℤ

-- what its master decides
abbrev pub ready_master : ReadyMaster → Master
ready_master master = master_of master.program

-- the job that it means
abbrev pub ready_job : ReadyJob → Job ℤ ℤ
ready_job own = job_of_service program_of combining_of ready_master own

-- its aggregators, by name, in the order of their places
abbrev pub ready_names : ReadyJob → Registered
ready_names own = registered_by ready_master own
