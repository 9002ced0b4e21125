-- The ready programs with their masters.
use Rattle.std.specs.Prelude.{ℤ, true, false, [], ◌∷◌, codes}
use Rattle.pg_model.specs.Job.{Program}
use Rattle.pg_model.specs.Programs.{sssp, cc, max_value, indegree, pagerank, pagerank_deciding, peel}
use Rattle.pg_global.specs.Master.{Master, leaves_all}
use Rattle.pg_global.specs.Registry.{Registered}
use Rattle.pg_global.specs.declared.aggregator.AnyAggregator.TheVariants.{LongSum, LongMax}
use Rattle.pregeld_programs.specs.declared.ready.ReadyProgram.{ReadyProgram}
use Rattle.pregeld_programs.specs.declared.ready.ReadyProgram.TheVariants.{Sssp, Cc, MaxValue, Indegree, Pagerank, Peel}

-- how many vertices are reached, over all supersteps
abbrev pub reached : Registered
reached = (codes "reached", record { kind = LongSum; persistent = true }) ∷ []

-- the greatest value of all
abbrev pub greatest : Registered
greatest = (codes "greatest", record { kind = LongMax; persistent = true }) ∷ []

-- how many messages are received
abbrev pub received : Registered
received = (codes "received", record { kind = LongSum; persistent = true }) ∷ []

-- by how much the ranks change, in each superstep
abbrev pub change : Registered
change = (codes "change", record { kind = LongSum; persistent = false }) ∷ []

-- how many vertices are removed, over all supersteps
abbrev pub removed : Registered
removed = (codes "removed", record { kind = LongSum; persistent = true }) ∷ []

-- the master that halts once the ranks change by no more than this
abbrev pub pagerank_master : ℤ → Master
pagerank_master eps = record { registrations = change; deciding = pagerank_deciding eps }

abbrev pub program_of : ReadyProgram → Program ℤ ℤ
program_of (Sssp p) = sssp p.source
program_of (Cc p) = cc
program_of (MaxValue p) = max_value
program_of (Indegree p) = indegree
program_of (Pagerank p) = pagerank p.rounds
program_of (Peel p) = peel p.k

-- the master of each program: only pagerank's decides anything
abbrev pub master_of : ReadyProgram → Master
master_of (Sssp p) = leaves_all reached
master_of (Cc p) = leaves_all []
master_of (MaxValue p) = leaves_all greatest
master_of (Indegree p) = leaves_all received
master_of (Pagerank p) = pagerank_master p.eps
master_of (Peel p) = leaves_all removed
