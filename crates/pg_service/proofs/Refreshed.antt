-- What an edit and a refresh leave of a service, and what a refresh reports.
use Rattle.std.proofs.Common.{◌≡◌, ℕ, ◌+◌, Bool, [], Option, None, Some, Result, Ok, Err, IfSome, OnErr}
use Rattle.std.proofs.Common.{refl, ap, sym, subst, ◌∙◌, arith}
use Rattle.pg_workers.specs.Handed.{IsRetainedBy, Limits, Traces}
use Rattle.pg_global.specs.Master.{Master, job_of}
use Rattle.pg_global.specs.Registry.{Registered}
use Rattle.pg_graph.specs.Rows.{Rows, row_at}
use Rattle.pg_model.specs.Job.{Combining, Job, Program}
use Rattle.pg_model.specs.Run.{answer}
use Rattle.pg_model.specs.declared.run.Run.{Run}
use Rattle.pg_publish.specs.Answers.{Answered}
use Rattle.pg_publish.specs.History.{Beginning}
use Rattle.pg_service.specs.Job.{ServiceJob, job_of_service, registered_by}
use Rattle.pg_service.specs.Kept.{IsKept, KeptRun}
use Rattle.pg_service.specs.Reported.{report_on}
use Rattle.pg_service.specs.Service.{IsAnswered, IsRun, MayCount, MayReport, ServiceState, Stands, entry_of, report_of, with_entry}
use Rattle.pg_service.specs.declared.report.Report.{Report}
use Rattle.pg_workers.specs.declared.counts.Counts.{Counts}
use Rattle.pg_workers.specs.Losses.{Fated}

module _ {R F : Type 0} where
  pub refused_so : {X : Type 0} (r : Result R F) → X → OnErr r X
  refused_so (Ok report) h = tt
  refused_so (Err fault) h = h

module _ {V M : Type 0} {program : Program V M} {combining : Option (Combining M)} {master : Master} {limits : Limits} {names : Registered}
    {graph : Rows} {edition : ℕ} {published : Option (Answered V)} {kept : Option (KeptRun V M)}
    (stands : Stands program combining master limits names graph edition published kept) where
  abbrev Own : Job V M
  Own = job_of program combining master limits.missing limits.limit

  -- what a service has fits together where the answer of its graph is published last, and the run that gave it is kept
  pub stands_refreshed : {run : Run V} {traces : Traces V M} {answers : Answered V} {last : Option (Answered V)} {retained : KeptRun V M} {same : Rows}
      → answers ≡ record { publication = record { edition = edition; answer = run }; registered = names }
      → last ≡ Some answers
      → retained ≡ record { traces = traces; touched = [] }
      → run ≡ answer Own same → IsRetainedBy Own same limits.partitions traces
      → Stands program combining master limits names same edition last (Some retained)
  stands_refreshed {traces = traces} {same = same} answers last retained is_answer leaves = record {
    can_run = stands.can_run;
    named = stands.named;
    answered = subst (λ o. IfSome o (IsAnswered Own master.registrations same edition)) (sym last)
        (subst (IsAnswered Own master.registrations same edition) (sym answers)
        (record { published = record { not_later = omega arith; is_answer = λ _. is_answer }; named = stands.named }));
    warm = subst (IsKept Own limits.partitions same) (sym retained) (record {
      retained = subst (λ rows. IsRetainedBy Own rows limits.partitions traces) (sym leaves.graph_is) leaves;
      untouched = λ q _. ap (row_at q) leaves.graph_is;
    });
  }

  -- and where another edition of the graph comes after, for which the run is kept
  pub stands_later : {made : Rows} {later : ℕ} {warm : Option (KeptRun V M)}
      → later ≡ edition + 1 → IfSome warm (IsKept Own limits.partitions made)
      → Stands program combining master limits names made later published warm
  stands_later {made = made} {later = later} next is_kept =
      record { can_run = stands.can_run; named = stands.named; answered = not_current published stands.answered; warm = is_kept }
    where
      not_current : (o : Option (Answered V)) → IfSome o (IsAnswered Own master.registrations graph edition)
          → IfSome o (IsAnswered Own master.registrations made later)
      not_current None is = tt
      not_current (Some answers) is = let l = is.published.not_later in record {
        published = record { not_later = omega (arith, l, next); is_answer = λ same. absurd (omega (arith, l, next, same)) };
        named = is.named;
      }

module _ {P C A V M : Type 0} (program_of : P → Program V M) (combining_of : C → Option (Combining M)) (master_of : A → Master)
    {state old : ServiceState P C A V} (is : state ≡ old) where
  abbrev Meant : ServiceJob P C A → Job V M
  Meant = job_of_service program_of combining_of master_of

  -- what it publishes and keeps
  pub refreshed : (run : Run V) {answers : Answered V} {told : Beginning (Answered V)} {readers : ℕ} {kept : Rows} {names : Registered}
      → answers ≡ record { publication = record { edition = state.edition; answer = run }; registered = names }
      → names ≡ registered_by master_of state.job
      → told ≡ with_entry answers state.told → readers ≡ state.readers
      → run ≡ answer (Meant state.job) state.graph → kept ≡ state.graph
      → record state { told = told; readers = readers; kept = Some kept }
      ≡ record old {
        told = with_entry (entry_of (Meant old.job) (registered_by master_of old.job) old.edition old.graph) old.told;
        kept = Some old.graph;
      }
  refreshed run answers names told readers is_answer kept =
      (λ i. record state {
        told = (told ∙ ap (λ (a : Answered V). with_entry a state.told)
            (answers ∙ (λ j. record { publication = record { edition = state.edition; answer = is_answer j }; registered = names j }))) i;
        readers = readers i;
        kept = Some (kept i);
      })
      ∙ ap (λ (s : ServiceState P C A V). record s {
        told = with_entry (entry_of (Meant s.job) (registered_by master_of s.job) s.edition s.graph) s.told;
        kept = Some s.graph;
      }) is

  -- what it reports
  pub reported : (value_eq : V → V → Bool) (message_eq : M → M → Bool) (fated : Fated) (run : Run V) {retained : Traces V M}
      {counts : Counts} {kept : Option Rows} {report : Report}
      → report ≡ report_on state.edition run counts → kept ≡ state.kept
      → IsRun (Meant state.job) value_eq message_eq fated state.job.limits kept state.graph run retained counts
      → MayReport (Meant old.job) value_eq message_eq fated old.job.limits old.kept old.edition old.graph report
  reported value_eq message_eq fated run {counts = counts} {kept = kept} {report = report} report_is kept_is ran =
      subst (λ (s : ServiceState P C A V).
      MayReport (Meant s.job) value_eq message_eq fated s.job.limits s.kept s.edition s.graph report) is
      (subst (MayReport (Meant state.job) value_eq message_eq fated state.job.limits state.kept state.edition state.graph) (sym report_is) (record {
        edition_is = refl;
        supersteps_are = ap (λ (r : Run V). r.supersteps) ran.answers;
        ending_is = ap (λ (r : Run V). r.ending) ran.answers;
        sent_are = ap (λ (r : Run V). r.sent) ran.answers;
        dropped_are = ap (λ (r : Run V). r.dropped) ran.answers;
        counted = subst (λ rows. MayCount (Meant state.job) value_eq message_eq fated state.job.limits rows state.graph counts) kept_is ran.counted;
      }))

-- a report of a refresh in which nobody fell
pub report_is_of : {V M : Type 0} (job : Job V M) (value_eq : V → V → Bool) (message_eq : M → M → Bool) (fated : Fated) (limits : Limits)
    (kept : Option Rows) (edition : ℕ) (graph : Rows) (report : Report)
    → MayReport job value_eq message_eq fated limits kept edition graph report → report.losses ≡ []
    → report ≡ report_of job value_eq message_eq limits.partitions kept edition graph
report_is_of job value_eq message_eq fated limits kept edition graph report may none =
    let (calls, steps) = may.counted.unlost none in
    λ i. record {
      edition = may.edition_is i;
      supersteps = may.supersteps_are i;
      ending = may.ending_is i;
      sent = may.sent_are i;
      dropped = may.dropped_are i;
      calls = calls i;
      steps = steps i;
      losses = none i;
    }
