use Rattle.std.proofs.Common.{length}
use Rattle.pg_global.specs.Master.{job_of}
use Rattle.pg_scratch.specs.Running.{IsRunning}
use Rattle.pg_scratch.proofs.runner.run_registered.Given as goal

abbrev pub invariant-loop-done : goal.invariant-loop-done
invariant-loop-done g l =
    IsRunning (job_of (g.P.Computation.program l.runner.program.now)
    (g.C.MessageCombiner.combining l.runner.combiner.now) (g.M.MasterCompute.master l.runner.master.now)
    l.runner.missing l.runner.limit) l.graph (length l.runner.registrations.now) l.fn.meter l.done l.progress
