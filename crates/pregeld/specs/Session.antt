-- A session: what is answered to lines, one command after another.
use Rattle.std.specs.Prelude.{◌≡◌, ◌≢◌, ◌⊎◌, ℕ, ℤ, ◌+◌, ◌≤◌, nat_lt, Bool, false, if◌then◌else◌, List, [], ◌∷◌}
use Rattle.std.specs.Prelude.{◌++◌, length, take, drop, Option, None, Some, Result}
use Rattle.std.specs.Prelude.{Ok, Err}
use Rattle.std.specs.Io.KnownBytes.{Appends}
use Rattle.std.specs.List.{concat}
use Rattle.std.specs.Ordering.{int_eq}
use Rattle.pg_graph.specs.Handed.{memory_fault, Edit as OneEdit, EditFault}
use Rattle.pg_graph.specs.Rows.{Rows}
use Rattle.pg_import.specs.Batch.{batch_of}
use Rattle.pg_import.specs.Comma.{csv_of}
use Rattle.pg_import.specs.Import.{list_of, no_memory}
use Rattle.pg_import.specs.declared.line.ImportFault.{ImportFault}
use Rattle.pg_import.specs.declared.line.Line.{Line}
use Rattle.pg_global.specs.Registry.{Registered}
use Rattle.pg_model.specs.Publications.{Publication}
use Rattle.pg_import.specs.Text.{raw_lines}
use Rattle.pregeld.specs.Job.{ReadyJob, ReadyState, ready_job, ready_names}
use Rattle.pregeld_commands.specs.Command.{command_of}
use Rattle.pregeld.specs.Reply.{line_of_aggregate, line_of_reply, summary_of, values_text}
use Rattle.pg_service.specs.Printed.{json_text}
use Rattle.pg_service.specs.Service.{IsTried, check_of, entry_of, last_published, next_graph}
use Rattle.pg_service.specs.Service.{MayReport, report_of}
use Rattle.pregeld_commands.specs.declared.command.Command.{Command}
use Rattle.pregeld_commands.specs.declared.command.Command.TheVariants.{Nothing, Edit, Act, Ask}
use Rattle.pregeld_commands.specs.declared.command.Action.{Action}
use Rattle.pregeld_commands.specs.declared.command.Action.TheVariants.{Commit, Import, Refresh, Recompute}
use Rattle.pregeld_commands.specs.declared.command.Query.{Query}
use Rattle.pregeld_commands.specs.declared.command.Query.TheVariants.{Aggregate, Dump, Get, Reported}
use Rattle.pregeld_commands.specs.declared.command.Form.{Form}
use Rattle.pregeld_commands.specs.declared.command.Form.TheVariants.{List as ListForm, Csv}
use Rattle.pregeld_commands.specs.declared.command.LineFault.{LineFault}
use Rattle.pregeld_commands.specs.declared.command.LineFault.TheVariants.{CutShort, EditsPending}
use Rattle.pregeld.specs.declared.reply.Reply.{Reply}
use Rattle.pregeld.specs.declared.reply.Reply.TheVariants.{Edition, ImportRefused, BatchRefused}
use Rattle.pregeld.specs.declared.reply.Reply.TheVariants.{Refreshed, RunRefused, Checked}
use Rattle.pregeld.specs.declared.reply.Reply.TheVariants.{Unpublished, Value, NoValue, Fault}
use Rattle.pg_service.specs.declared.report.Report.{Report}
use Rattle.pg_service.specs.Handed.{Answered, Limits, MayRefuse, RefreshFault, aggregate_of, is_failure, refusal_number}
use Rattle.pg_service.specs.Handed.{value_of}
use Rattle.pregeld.specs.declared.session.ServeFault.{ServeFault}
use Rattle.pregeld.specs.declared.session.ServeFault.TheVariants.{Write}

-- what a session keeps
pub record State : Type 0 where
  pub graph : Rows
  pub edition : ℕ
  pub pending : List OneEdit  -- edits that wait to be made as one batch, in their order
  pub publications : List (Answered ℤ)  -- all that the service has published, with the names of the aggregates
  pub report : Option Report  -- of the last refresh of this session that was answered
  pub kept : Option Rows  -- the graph of the run that the next refresh may reuse

-- where a session stands: how many lines were read, what it keeps, and the lines that are unread,
-- each with its line feed
pub record Place : Type 0 where
  pub number : ℕ
  pub state : State
  pub lines : List (List ℕ)

abbrev pub place_at : ℕ → State → List (List ℕ) → Place
place_at number state lines = record { number = number; state = state; lines = lines }

-- what is answered to a command, and where the session goes on
pub record Answer : Type 0 where
  pub text : List ℕ
  pub next : Place

-- one line is answered, and the session stands there
abbrev pub answered : Reply → Place → Answer
answered reply next = record { text = line_of_reply reply; next = next }

-- ---- an import

-- past so many lines
abbrev pub past : ℕ → Place → Place
past n place = record place { number = place.number + n; lines = drop n place.lines }

-- the edges of a block
abbrev pub edges_of : Form → List ℕ → Result (List Line) ImportFault
edges_of ListForm block = list_of block
edges_of Csv block = csv_of block

-- what an import is answered, and the edition and the graph after it
pub record Imported : Type 0 where
  pub reply : Reply
  pub edition : ℕ
  pub graph : Rows

-- the next edition, or the fault of the batch
abbrev pub edited : Result Rows EditFault → ℕ → Rows → Imported
edited (Err fault) edition graph =
    record { reply = BatchRefused fault; edition = edition; graph = graph }
edited (Ok made) edition graph =
    record { reply = Edition (edition + 1); edition = edition + 1; graph = made }

-- edges become a batch, or the block has a fault
abbrev pub imported : Result (List Line) ImportFault → ℕ → Rows → Imported
imported (Err fault) edition graph =
    record { reply = ImportRefused fault; edition = edition; graph = graph }
imported (Ok edges) edition graph =
    edited (next_graph edition graph (batch_of edges graph)) edition graph

-- the batch of these edges is tried
abbrev pub IsTriedOf : ℕ → Rows → Result (List Line) ImportFault → Type 0
IsTriedOf edition graph (Ok edges) = IsTried edition (batch_of edges graph)
IsTriedOf edition graph (Err fault) = ⊥

-- an import takes so many lines, or is cut short by the end of the input, and then nothing is
-- applied
abbrev pub block_answer : Form → ℕ → Place → Answer
block_answer form n place =
    if nat_lt (length place.lines) n
    then answered (Fault CutShort place.number) (record place { lines = [] })
    else
    let edges = edges_of form (concat (take n place.lines)) in
    let now = imported edges place.state.edition place.state.graph in
    answered now.reply (record (past n place) {
      state = record place.state { edition = now.edition; graph = now.graph };
    })

-- an import while edits are pending is a fault, and its block is set aside
abbrev pub import_answer : List OneEdit → Form → ℕ → Place → Answer
import_answer [] form n place = block_answer form n place
import_answer (edit ∷ edits) form n place =
    answered (Fault EditsPending place.number) (past n place)

-- memory may be wanted for an import before its batch is applied, and while it is, where it is
-- tried
abbrev pub ImportWantsMemory : Form → ℕ → Place → Reply → Type 0
ImportWantsMemory form n place reply =
    let edges = edges_of form (concat (take n place.lines)) in
    (place.state.pending ≡ []) × (n ≤ length place.lines)
    × ((reply ≡ ImportRefused no_memory)
    ⊎ ((reply ≡ BatchRefused memory_fault)
    × IsTriedOf place.state.edition place.state.graph edges))

-- ---- edits

-- one more edit is pending
abbrev pub noted : OneEdit → State → State
noted edit state = record state { pending = state.pending ++ edit ∷ [] }

-- no edit is pending
abbrev pub emptied : State → State
emptied state = record state { pending = [] }

-- the pending edits make the next edition, or are refused; in both cases none is pending afterwards
abbrev pub commit_answer : Place → Answer
commit_answer place =
    let state = place.state in
    let made = next_graph state.edition state.graph state.pending in
    let now = edited made state.edition state.graph in
    answered now.reply (record place {
      state = record (emptied state) { edition = now.edition; graph = now.graph };
    })

-- ---- all commands

-- the values that were published last, if any
abbrev pub dump_text : Option (Publication ℤ) → List ℕ
dump_text None = line_of_reply Unpublished
dump_text (Some publication) = values_text publication.answer.values

-- the value that was published last of a vertex
abbrev pub value_reply : ℕ → Option ℤ → Reply
value_reply id None = NoValue id
value_reply id (Some value) = Value id value

abbrev pub get_reply : ℕ → Option (Publication ℤ) → Reply
get_reply id None = Unpublished
get_reply id (Some publication) = value_reply id (value_of id publication.answer.values)

-- the aggregate that was published last under a name, of those that are registered
abbrev pub aggregate_text : List ℕ → Registered → Option (Publication ℤ) → List ℕ
aggregate_text name registered None = line_of_reply Unpublished
aggregate_text name registered (Some publication) =
    line_of_aggregate name (aggregate_of name registered publication.answer.aggregates)

-- the report of the last refresh of this session that was answered
abbrev pub report_line : Option Report → List ℕ
report_line None = line_of_reply Unpublished
report_line (Some report) = json_text report ++ 10 ∷ []

-- the answer to a query, by a job, of what was published last and of the last report
abbrev pub query_text : ReadyJob → Query → Option (Publication ℤ) → Option Report → List ℕ
query_text own Dump published report = dump_text published
query_text own (Get id) published report = line_of_reply (get_reply id published)
query_text own (Aggregate name) published report =
    aggregate_text name (ready_names own) published
query_text own Reported published report = report_line report

-- no worker falls
abbrev pub no_fate : ℕ → ℕ → ℕ → ℕ → Bool
no_fate superstep attempt worker partition = false

-- why a refresh may be refused: not by a device, since its checkpoints stay in memory
abbrev pub MayBeRefused : Limits → RefreshFault → Type 0
MayBeRefused limits fault = (is_failure {X = Report} (Err fault) ≡ false) × MayRefuse no_fate limits fault

module _ (own : ReadyJob) where
  -- the run on the graph as it stands is published and reported so, and is the one that the next may reuse
  abbrev pub refresh_answer : Report → Place → Answer
  refresh_answer report place =
      let state = place.state in
      let entry = entry_of (ready_job own) (ready_names own) state.edition state.graph in
      answered (Refreshed (summary_of report)) (record place {
        state = record state {
          publications = state.publications ++ entry ∷ [];
          report = Some report;
          kept = Some state.graph;
        };
      })

  -- the report of a refresh in which no worker fell
  abbrev pub report_at : State → Report
  report_at state = report_of (ready_job own) int_eq int_eq own.limits.partitions state.kept state.edition state.graph

  -- the reports that a refresh may give: by no fate anybody falls
  abbrev pub MayReportAt : State → Report → Type 0
  MayReportAt state report =
      MayReport (ready_job own) int_eq int_eq no_fate own.limits state.kept state.edition state.graph report

  -- what is done, and what it is answered
  unfoldable pub action_answer : Action → Place → Answer
  action_answer Commit place = commit_answer place
  action_answer (Import form n) place = import_answer place.state.pending form n place
  action_answer Refresh place = refresh_answer (report_at place.state) place
  action_answer Recompute place =
      let state = place.state in
      let published = last_published state.publications in
      answered (Checked (check_of (ready_job own) int_eq int_eq state.edition state.graph published)) place

  -- the answer to a command, which stands in the last line that was read
  unfoldable pub answer_to : Result Command LineFault → Place → Answer
  answer_to (Err fault) place = answered (Fault fault place.number) place
  answer_to (Ok Nothing) place = record { text = []; next = place }
  answer_to (Ok (Edit edit)) place =
      record { text = []; next = record place { state = noted edit place.state } }
  answer_to (Ok (Act action)) place = action_answer action place
  answer_to (Ok (Ask query)) place =
      record {
        text = query_text own query (last_published place.state.publications) place.state.report;
        next = place;
      }

  -- a refresh for which a worker, or more, had no memory: it is answered all the same, or refused, and then no run is
  -- kept
  abbrev pub LosesWorkers : Place → Answer → Type 0
  LosesWorkers place answer =
      ((report : Report) × MayReportAt place.state report × (report.losses ≢ [])
      × (answer ≡ refresh_answer report place))
      ⊎ ((fault : RefreshFault) × MayBeRefused own.limits fault
      × (answer
      ≡ answered (RunRefused (refusal_number fault)) (record place { state = record place.state { kept = None } })))

  -- an action for which there is no memory: graph, edition and publications stay, but for a refresh that is answered,
  -- and no edit is pending after a commit
  abbrev pub WantsMemory : Action → Place → Answer → Type 0
  WantsMemory Commit place answer =
      IsTried place.state.edition place.state.pending
      × (answer
      ≡ answered (BatchRefused memory_fault) (record place { state = emptied place.state }))
  WantsMemory (Import form n) place answer =
      (reply : Reply) × ImportWantsMemory form n place reply
      × (answer ≡ answered reply (past n place))
  WantsMemory Refresh place answer = LosesWorkers place answer
  WantsMemory Recompute place answer = answer ≡ answered (RunRefused 1) place

  -- the answers for want of memory
  abbrev pub ForWantOfMemory : Result Command LineFault → Place → Answer → Type 0
  ForWantOfMemory (Ok (Act action)) place answer = WantsMemory action place answer
  ForWantOfMemory (Ok (Edit edit)) place answer = ⊥
  ForWantOfMemory (Ok (Ask query)) place answer = ⊥
  ForWantOfMemory (Ok Nothing) place answer = ⊥
  ForWantOfMemory (Err fault) place answer = ⊥

  -- an answer that a command may get
  abbrev pub Answers : Result Command LineFault → Place → Answer → Type 0
  Answers command place answer =
      (answer ≡ answer_to command place) ⊎ ForWantOfMemory command place answer

  -- a session answers this text on its way from one place to another
  pub data Runs : Place → List ℕ → Place → Type 0 where
    stop : (place : Place) → Runs place [] place
    go : (number : ℕ) (state : State) (line : List ℕ) (lines : List (List ℕ))
        (answer : Answer) (text : List ℕ) (end : Place)
        → Answers (command_of line) (place_at (number + 1) state lines) answer
        → Runs answer.next text end
        → Runs (place_at number state (line ∷ lines)) (answer.text ++ text) end

  -- a session's text ends in an answer that isn't empty: the one to the last line that was read
  pub record EndsInAnswer (first : Place) (text : List ℕ) (end : Place) : Type 0 where
    pub front : List ℕ
    pub number : ℕ
    pub state : State
    pub line : List ℕ
    pub lines : List (List ℕ)
    pub answer : Answer
    pub runs : Runs first front (place_at number state (line ∷ lines))
    pub answers : Answers (command_of line) (place_at (number + 1) state lines) answer
    pub some : answer.text ≢ []
    pub text_is : text ≡ front ++ answer.text
    pub end_is : end ≡ answer.next

-- ---- the service of a session

-- a session begins with what a service keeps
abbrev pub opened : ReadyState → State
opened service = record {
  graph = service.graph;
  edition = service.edition;
  pending = [];
  publications = service.told.list;
  report = None;
  kept = service.kept;
}

-- a service keeps what a session has come to
abbrev pub after : ReadyState → State → ReadyState
after service state = record service {
  graph = state.graph;
  edition = state.edition;
  told = record service.told { list = state.publications };
  kept = state.kept;
}

-- where a session of a service on an input begins
abbrev pub first_place : ReadyState → List ℕ → Place
first_place service input = place_at 0 (opened service) (raw_lines input)

-- a session of a service on an input has come to a place, with this text
pub record Comes (input : List ℕ) (old new : ReadyState) (text : List ℕ)
    (place : Place) : Type 0 where
  pub runs : Runs old.job (first_place old input) text place
  pub service_is : new ≡ after old place.state

-- the whole input was answered, and that is what was written
pub record Serves (input : List ℕ) (old new : ReadyState)
    (before now : Option (List ℕ)) : Type 0 where
  pub text : List ℕ
  pub place : Place
  pub comes : Comes input old new text place
  pub ends : place.lines ≡ []
  pub wrote : Appends before now text

-- a fault broke a session off: all was written that was answered until then; where writing failed,
-- it was the last answer that couldn't be written
pub record BreaksOff (fault : ServeFault) (input : List ℕ) (old new : ReadyState)
    (before now : Option (List ℕ)) : Type 0 where
  pub text : List ℕ
  pub place : Place
  pub comes : Comes input old new text place
  pub wrote : fault ≢ Write → Appends before now text
  pub unwritten : fault ≡ Write → EndsInAnswer old.job (first_place old input) text place
