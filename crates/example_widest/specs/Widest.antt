-- Widest paths: a program, its aggregator, its master, and the job that they make. The width of a
-- path is the least weight on it; what a run looks for is the greatest width of the paths to each
-- vertex.
use Rattle.std.specs.Prelude.{ℕ, ◌==◌, Bool, true, cond, ◌&&◌, [], ◌∷◌, map, ℤ, int_lt, int_le}
use Rattle.std.specs.Prelude.{Some, codes}
use Rattle.std.specs.Int.{int_min}
use Rattle.std.specs.List.{slice_get}
use Rattle.std.specs.Option.{unwrap_or}
use Rattle.pg_service.specs.Handed.{Limits}
use Rattle.pg_global.specs.Combiner.{greatest_message}
use Rattle.pg_global.specs.Master.{Master, job_of}
use Rattle.pg_global.specs.Registry.{Registered}
use Rattle.pg_global.specs.declared.combiner.AnyCombiner.{AnyCombiner}
use Rattle.pg_global.specs.declared.combiner.AnyCombiner.TheVariants.{Max}
use Rattle.pg_global.specs.declared.aggregator.AnyAggregator.TheVariants.{LongMax}
use Rattle.pg_model.specs.Aggregators.{greatest_number, least_number}
use Rattle.pg_model.specs.Job.{Deciding, Inputs, Job, Program}
use Rattle.pg_model.specs.Programs.{contributed, greatest_of, only_writes}
use Rattle.pg_model.specs.declared.record.Record.{Record}
use Rattle.pg_service.specs.Job.{ServiceJob}
use Rattle.example_widest.specs.declared.master.WidestMaster.{WidestMaster}
use Rattle.example_widest.specs.declared.program.Widest.{Widest}
use Rattle.example_widest.specs.declared.search.Search.{Search}

-- the width where there is no path, and that of the path without an edge
abbrev pub no_path : ℤ
no_path = least_number

abbrev pub no_edge : ℤ
no_edge = greatest_number

-- an execution: where a wider path has come, it is kept, sent along the edges, and at the target
-- also to the aggregator
unfoldable pub widest_step : ℕ → ℕ → Inputs ℤ ℤ → Record ℤ ℤ
widest_step source target i =
    let width : ℤ = greatest_of (cond (i.id == source) no_edge no_path) i.inbox in
    let is_wider : Bool = int_lt i.value width in
    record {
      value = cond is_wider width i.value;
      edges = i.edges;
      halted = true;
      sent = cond is_wider (map (λ e. (e.0, int_min width e.1)) i.edges) [];
      contributed = cond (is_wider && (i.id == target)) (contributed width) [];
    }

abbrev pub widest : ℕ → ℕ → Program ℤ ℤ
widest source target =
    record {
      declared = only_writes 1;
      initial = λ id input. no_path;
      step = widest_step source target;
    }

-- the greatest width at the target, over all supersteps
abbrev pub found : Registered
found = (codes "found", record { kind = LongMax; persistent = true }) ∷ []

-- the run ends once a path to the target is as wide as this
abbrev pub halts_at : ℤ → Deciding
halts_at enough s totals gathered =
    record { values = gathered; halt = int_le enough (unwrap_or (slice_get gathered 0) no_path) }

abbrev pub widest_master : ℤ → Master
widest_master enough = record { registrations = found; deciding = halts_at enough }

-- what a service of a search runs: a vertex gets only the greatest of its messages
abbrev pub searched : Search → Limits → ServiceJob Widest AnyCombiner WidestMaster
searched search limits = record {
  program = record { source = search.source; target = search.target };
  combiner = Max;
  master = record { enough = search.enough };
  limits = limits;
}

-- the job that it means
abbrev pub widest_job : Search → Limits → Job ℤ ℤ
widest_job search limits =
    job_of (widest search.source search.target) (Some greatest_message)
    (widest_master search.enough) limits.missing limits.limit
