-- What a partition leaves of a whole run.
use Rattle.std.proofs.Common.{◌≡◌, ℕ, ◌≤◌, List, length, Option, arith, ◌∙◌, sym, ap, subst}
use Rattle.std.proofs.lemmas.List.{length-take-le, take-take}
use Rattle.pg_part.specs.PartRun.{PartRunState, Holds, IsWhole}
use Rattle.pg_graph.specs.Rows.{Rows}
use Rattle.pg_model.specs.Job.{Job}
use Rattle.pg_model.specs.Run.{run_length}
use Rattle.pg_part.specs.Part.{HoldsShare, IsRetained, PartState}
use Rattle.pg_stats.specs.declared.stats.PartitionStats.{PartitionStats}
use Rattle.pg_trace.specs.Trace.{Trace, first_supersteps}

module _ {V M : Type 0} (job : Job V M) (kept : Option Rows) (rows : Rows) (n p : ℕ) where
  -- the trace without what lies beyond is that of the whole run
  whole : (part_run : PartRunState V M) → Holds job kept rows n p (run_length job rows) part_run
      → IsWhole job rows n p (first_supersteps (run_length job rows) part_run.trace)
  whole part_run holds =
      let r : ℕ = run_length job rows in
      record {
        run = record {
          rise = holds.run.rise;
          initial = holds.run.initial;
          records = take-take r r part_run.trace.records (let all : r ≤ r = omega arith in all) ∙ holds.run.records;
        };
        supersteps = length-take-le r part_run.trace.records (let enough : r ≤ length part_run.trace.records = omega (arith, holds.supersteps) in enough);
      }

  pub left_is : (part : PartState V M) (s : ℕ) → s ≡ run_length job rows → HoldsShare job kept rows n p s part
      → (trace : Trace V M) → trace ≡ first_supersteps s part.part_run.trace → (stats : List PartitionStats) → stats ≡ part.stats
      → IsRetained job rows n p (record { trace = trace; stats = stats })
  left_is part s end holds trace cut stats same =
      let at_end : HoldsShare job kept rows n p (run_length job rows) part = subst (λ (k : ℕ). HoldsShare job kept rows n p k part) end holds in
      record {
        whole = subst (IsWhole job rows n p) (sym (cut ∙ ap (λ (k : ℕ). first_supersteps k part.part_run.trace) end)) (whole part.part_run at_end.part_run);
        stats_are = same ∙ at_end.stats.stats_are;
      }
