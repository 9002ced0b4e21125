-- What is reported of a run.
use Rattle.std.specs.Prelude.{ℕ}
use Rattle.pg_model.specs.declared.run.Run.{Run}
use Rattle.pg_service.specs.declared.report.Report.{Report}
use Rattle.pg_workers.specs.declared.counts.Counts.{Counts}

-- the run's numbers, and what was counted of it
abbrev pub report_on : {V : Type 0} → ℕ → Run V → Counts → Report
report_on edition run counts = record {
  edition = edition;
  supersteps = run.supersteps;
  ending = run.ending;
  sent = run.sent;
  dropped = run.dropped;
  calls = counts.calls;
  steps = counts.steps;
  losses = counts.losses;
}

-- what was counted of the run
abbrev pub counts_in : Report → Counts
counts_in report = record { calls = report.calls; steps = report.steps; losses = report.losses }
