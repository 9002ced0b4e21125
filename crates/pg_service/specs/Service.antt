-- What a service keeps, and what an edit and a refresh make of it.
use Rattle.std.specs.Prelude.{◌≡◌, ◌⊎◌, ℕ, ◌<◌, ◌≤◌, Bool, false, ◌==◌, nat_lt, if◌then◌else◌}
use Rattle.std.specs.Prelude.{List, [], ◌∷◌, ◌++◌, length, replicate, Option}
use Rattle.std.specs.Prelude.{None, Some, IfSome, option_map, Result, Err}
use Rattle.logbook.specs.Pages.{Book}
use Rattle.pg_workers.specs.Handed.{Event, IsRetainedBy, Limits, Traces}
use Rattle.pg_global.specs.Master.{Master, job_of}
use Rattle.pg_graph.specs.Edit.{batch_edited, batch_limit}
use Rattle.pg_graph.specs.Handed.{memory_fault, Edit, EditFault, Full}
use Rattle.pg_graph.specs.Rows.{Rows}
use Rattle.pg_global.specs.Registry.{Registered}
use Rattle.pg_model.specs.Job.{Combining, Job, Program}
use Rattle.pg_model.specs.Needed.{needed_count}
use Rattle.pg_model.specs.Publications.{Publication}
use Rattle.pg_model.specs.Run.{answer}
use Rattle.pg_model.specs.Superstep.{capped}
use Rattle.pg_model.specs.declared.run.Run.{Run}
use Rattle.pg_publish.specs.Answers.{Answered, HaveRisingIds}
use Rattle.pg_publish.specs.History.{Beginning, last_of}
use Rattle.pg_service.specs.Job.{CanRun, ServiceJob}
use Rattle.pg_service.specs.Kept.{IsKept, KeptRun}
use Rattle.pg_service.specs.Reported.{counts_in, report_on}
use Rattle.pg_service.specs.declared.answers.Check.{Check}
use Rattle.pg_service.specs.declared.answers.Check.TheVariants.{Same, Stale}
use Rattle.pg_service.specs.declared.report.Report.{Report}
use Rattle.pg_workers.specs.Driven.{AreCountsOf}
use Rattle.pg_workers.specs.Losses.{AreFated, Fated}
use Rattle.pg_workers.specs.declared.counts.Counts.{Counts}

-- what it runs, its graph with the number of batches that made it, which publisher it has with all that was published,
-- how many readers were made, and the graph of the run that the next one may reuse
pub record ServiceState (P C A V : Type 0) : Type 0 where
  pub job : ServiceJob P C A
  pub graph : Rows
  pub edition : ℕ
  pub told : Beginning (Answered V)
  pub readers : ℕ
  pub kept : Option Rows

-- a service with this publisher as it begins: an empty graph, and nothing published or kept
abbrev pub fresh : {P C A V : Type 0} → ServiceJob P C A → Book → ServiceState P C A V
fresh job publisher = record {
  job = job;
  graph = [];
  edition = 0;
  told = record { publisher = publisher; list = [] };
  readers = 0;
  kept = None;
}

-- with one entry more
abbrev pub with_entry : {E : Type 0} → E → Beginning E → Beginning E
with_entry entry told = record told { list = told.list ++ entry ∷ [] }

-- what was published last
abbrev pub last_published : {V : Type 0} → List (Answered V) → Option (Publication V)
last_published list = option_map (λ a. a.publication) (last_of list)

-- no edition is greater
abbrev pub edition_limit : ℕ
edition_limit = 18446744073709551615

-- the fault of a batch where there is no edition for it any more
abbrev pub no_edition_left : EditFault
no_edition_left = record { position = 0; kind = Full }

-- the graph of the next edition, or why a batch makes none
unfoldable pub next_graph : ℕ → Rows → List Edit → Result Rows EditFault
next_graph edition graph batch =
    if nat_lt edition edition_limit then batch_edited graph batch else Err no_edition_left

-- a batch is tried where there is an edition for it and it isn't too long; only then memory may be
-- wanted
abbrev pub IsTried : ℕ → List Edit → Type 0
IsTried edition batch = (edition < edition_limit) × (length batch ≤ batch_limit)

-- why a batch makes no edition: want of memory, or a fault of its own
abbrev pub RefusesEdition : ℕ → Rows → List Edit → EditFault → Type 0
RefusesEdition edition graph batch fault =
    ((fault ≡ memory_fault) × IsTried edition batch) ⊎ (next_graph edition graph batch ≡ Err fault)

-- whether the last publication is of this edition
abbrev pub is_current : {V : Type 0} → ℕ → Option (Publication V) → Bool
is_current edition None = false
is_current edition (Some publication) = publication.edition == edition

module _ {V M : Type 0} (job : Job V M) where
  -- what was published is of this edition and the answer of its graph, or of an earlier edition
  pub record IsPublished (graph : Rows) (edition : ℕ) (publication : Publication V) : Type 0 where
    pub not_later : publication.edition ≤ edition
    pub is_answer : publication.edition ≡ edition → publication.answer ≡ answer job graph

  -- answers are what was published, with the names of the job's aggregates
  pub record IsAnswered (registered : Registered) (graph : Rows) (edition : ℕ)
      (answers : Answered V) : Type 0 where
    pub published : IsPublished graph edition answers.publication
    pub named : answers.registered ≡ registered

  -- what a refresh publishes, with the names of its aggregates
  abbrev pub publication_of : ℕ → Rows → Publication V
  publication_of edition graph = record { edition = edition; answer = answer job graph }

  abbrev pub entry_of : Registered → ℕ → Rows → Answered V
  entry_of names edition graph = record { publication = publication_of edition graph; registered = names }

  module _ (value_eq : V → V → Bool) (message_eq : M → M → Bool) where
    -- how many executions a run needs against the run on a graph that was kept, if any
    abbrev pub calls_of : Option Rows → Rows → ℕ
    calls_of kept graph = capped (needed_count value_eq message_eq job kept graph)

    -- what may be counted of a run against a kept one, if any, on workers that fall by a fate: what a history
    -- that the status machine allows has. No more workers fell than may, by the fate only those that it has fall, and
    -- none where there is one worker. Where no worker fell, the calls are the needed executions, at most 2^64 - 1,
    -- and each partition has made each superstep once
    pub record MayCount (fated : Fated) (limits : Limits) (kept : Option Rows) (graph : Rows)
        (counts : Counts) : Type 0 where
      pub history : List Event
      pub tells : AreCountsOf value_eq message_eq job kept graph limits.partitions limits.workers history counts
      pub few : length counts.losses ≤ limits.max_losses
      pub fated_are : AreFated fated 0 counts.losses
      pub cold : limits.workers ≡ 1 → counts.losses ≡ []
      pub unlost : counts.losses ≡ []
          → (counts.calls ≡ calls_of kept graph)
          × (counts.steps ≡ replicate limits.partitions (answer job graph).supersteps)

    -- what a refresh may report: the numbers of the run from scratch, and what may be counted
    pub record MayReport (fated : Fated) (limits : Limits) (kept : Option Rows) (edition : ℕ)
        (graph : Rows)
        (report : Report) : Type 0 where
      pub edition_is : report.edition ≡ edition
      pub supersteps_are : report.supersteps ≡ (answer job graph).supersteps
      pub ending_is : report.ending ≡ (answer job graph).ending
      pub sent_are : report.sent ≡ (answer job graph).sent
      pub dropped_are : report.dropped ≡ (answer job graph).dropped
      pub counted : MayCount fated limits kept graph (counts_in report)

    -- what is counted over n partitions where no worker fell, and the report then
    abbrev pub unlost_counts : ℕ → Option Rows → Rows → Counts
    unlost_counts n kept graph =
        record { calls = calls_of kept graph; steps = replicate n (answer job graph).supersteps; losses = [] }

    abbrev pub report_of : ℕ → Option Rows → ℕ → Rows → Report
    report_of n kept edition graph = report_on edition (answer job graph) (unlost_counts n kept graph)

    -- what a run gives: the answer of the run from scratch, what the next one may reuse, and what may be counted
    pub record IsRun (fated : Fated) (limits : Limits) (kept : Option Rows) (graph : Rows) (run : Run V)
        (retained : Traces V M)
        (counts : Counts) : Type 0 where
      pub answers : run ≡ answer job graph
      pub rising : HaveRisingIds run.values
      pub leaves : IsRetainedBy job graph limits.partitions retained
      pub counted : MayCount fated limits kept graph counts

    -- what a check finds: what was published is of another edition, or it is the answer of the run
    -- from scratch, which has so many calls
    abbrev pub check_of : ℕ → Rows → Option (Publication V) → Check
    check_of edition graph published =
        if is_current edition published then Same (calls_of None graph) else Stale

-- what a service has fits together: its program can run with its master, whose aggregators have these names, what was
-- published last is of this edition and the answer of its graph, or of an earlier edition, and the run that is kept was
-- on a graph that differs only at the noted ids
pub record Stands {V M : Type 0} (program : Program V M) (combining : Option (Combining M)) (master : Master)
    (limits : Limits) (names : Registered) (graph : Rows) (edition : ℕ) (published : Option (Answered V))
    (kept : Option (KeptRun V M)) : Type 0 where
  pub can_run : CanRun program master
  pub named : names ≡ master.registrations
  pub answered : IfSome published (IsAnswered (job_of program combining master limits.missing limits.limit)
      master.registrations graph edition)
  pub warm : IfSome kept (IsKept (job_of program combining master limits.missing limits.limit) limits.partitions
      graph)
