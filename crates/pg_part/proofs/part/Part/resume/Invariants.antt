use Rattle.std.proofs.Common.{◌≡◌, ℕ, ◌≤◌, ◌++◌, None, length, map}
use Rattle.pg_part.specs.PartRun.{IsResumed}
use Rattle.pg_graph.specs.Rows.{Rows}
use Rattle.pg_model.specs.Job.{Job}
use Rattle.pg_model.specs.Run.{run_length}
use Rattle.pg_model.specs.Share.{records_below}
use Rattle.pg_part.specs.Part.{HoldsShare}
use Rattle.pg_stats.specs.GlobalStats.{aggregators_of}
use Rattle.pg_part.proofs.part.Part.resume.Given as goal

abbrev pub invariant-loop-superstep : goal.invariant-loop-superstep
invariant-loop-superstep g l = record {
  whole : l.yielded ++ l.superstep-iterator.rest.items ≡ l.fn.records.items;
  resumed : IsResumed (map (λ r. r.items) l.yielded) l.fn.self.part_run l.part.part_run;
  holds : (job : Job g.row.V.Denot g.row.M.Denot) (rows : Rows) (n p : ℕ) → job.aggregators ≡ aggregators_of l.registry
      → HoldsShare job None rows n p 0 l.fn.self → length l.yielded ≤ run_length job rows
      → map (λ r. r.items) l.yielded ≡ records_below job rows n p (length l.yielded)
      → HoldsShare job None rows n p (length l.yielded) l.part;
}
