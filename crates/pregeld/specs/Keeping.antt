-- What a service and its notes keep of a session, and what it is answered with.
use Rattle.std.specs.Prelude.{◌≡◌, ◌≢◌, ◌⊎◌, ℕ, ◌<◌, ◌≤◌, List, []}
use Rattle.std.specs.Prelude.{length, take, drop, Option, None, Some, Result}
use Rattle.std.specs.List.{concat}
use Rattle.std.specs.Ordering.{int_eq}
use Rattle.std.specs.Io.KnownBytes.{Appends}
use Rattle.pg_graph.specs.Handed.{memory_fault, Edit}
use Rattle.pg_import.specs.Import.{no_memory}
use Rattle.pg_import.specs.declared.line.ImportFault.{ImportFault}
use Rattle.pg_import.specs.declared.line.Line.{Line}
use Rattle.pregeld.specs.Job.{ReadyState, ready_job, ready_names}
use Rattle.pregeld_commands.specs.Command.{command_of}
use Rattle.pregeld.specs.SessionState.{ServiceWithSession, Noted, stored}
use Rattle.pregeld.specs.Reply.{summary_of}
use Rattle.pg_service.specs.Service.{IsTried, MayReport, check_of, entry_of, last_published, next_graph, with_entry}
use Rattle.pg_service.specs.declared.report.Report.{Report}
use Rattle.pg_service.specs.Handed.{RefreshFault, refusal_number}
use Rattle.pregeld.specs.Session.{Answer, Answers, IsTriedOf, Place, State, after, answered}
use Rattle.pregeld.specs.Session.{MayBeRefused, edges_of, edited, imported, no_fate}
use Rattle.pregeld_commands.specs.declared.command.Command.{Command}
use Rattle.pregeld_commands.specs.declared.command.Form.{Form}
use Rattle.pregeld_commands.specs.declared.command.LineFault.{LineFault}
use Rattle.pregeld.specs.declared.reply.Reply.{Reply}
use Rattle.pregeld.specs.declared.reply.Reply.TheVariants.{ImportRefused, BatchRefused, Refreshed}
use Rattle.pregeld.specs.declared.reply.Reply.TheVariants.{RunRefused, Checked}
use Rattle.pregeld.specs.declared.session.ServeFault.{ServeFault}
use Rattle.pregeld.specs.declared.session.ServeFault.TheVariants.{Write}

-- a batch may be answered so, or for want of memory where it is tried
abbrev pub Edits : List Edit → ReadyState → Reply → ReadyState → Type 0
Edits batch old reply new =
    let now = edited (next_graph old.edition old.graph batch) old.edition old.graph in
    ((reply ≡ now.reply) × (new ≡ record old { edition = now.edition; graph = now.graph }))
    ⊎ ((new ≡ old) × (reply ≡ BatchRefused memory_fault) × IsTried old.edition batch)

-- an import may be answered so, or for want of memory
abbrev pub Imports : Result (List Line) ImportFault → ReadyState → Reply → ReadyState → Type 0
Imports edges old reply new =
    let now = imported edges old.edition old.graph in
    ((reply ≡ now.reply) × (new ≡ record old { edition = now.edition; graph = now.graph }))
    ⊎ ((new ≡ old) × ((reply ≡ ImportRefused no_memory)
    ⊎ ((reply ≡ BatchRefused memory_fault) × IsTriedOf old.edition old.graph edges)))

-- the lines of an import were fewer, or were read and answered so
abbrev pub ImportsLines :
    Form → ℕ → List (List ℕ) → ReadyState → Option Reply → ReadyState
    → Option (List (List ℕ)) → Type 0
ImportsLines form n lines old None new unread = (length lines < n) × (new ≡ old) × (unread ≡ Some [])
ImportsLines form n lines old (Some reply) new unread =
    (n ≤ length lines)
    × Imports (edges_of form (concat (take n lines))) old reply new
    × (unread ≡ Some (drop n lines))

-- a refresh may be answered so and reported, or refused, and then no run is kept
abbrev pub Refreshes : ServiceWithSession → Reply → ServiceWithSession → Type 0
Refreshes old reply new =
    let service = old.service in
    let own = ready_job service.job in
    let entry = entry_of own (ready_names service.job) service.edition service.graph in
    ((report : Report)
    × MayReport own int_eq int_eq no_fate service.job.limits service.kept service.edition service.graph report
    × (reply ≡ Refreshed (summary_of report))
    × (new.service ≡ record service { told = with_entry entry service.told; kept = Some service.graph })
    × (new.session_state ≡ record old.session_state { report = Some report }))
    ⊎ ((fault : RefreshFault) × MayBeRefused service.job.limits fault
    × (reply ≡ RunRefused (refusal_number fault))
    × (new ≡ record old { service = record service { kept = None } }))

-- a check may be answered so, or for want of memory
abbrev pub Checks : ReadyState → Reply → Type 0
Checks old reply =
    (reply ≡ Checked (check_of (ready_job old.job) int_eq int_eq old.edition old.graph (last_published old.told.list)))
    ⊎ (reply ≡ RunRefused 1)

-- ---- a service and its session

-- what is noted of a session: its pending edits, and its last report
pub record AreSessionState (session_state : Noted) (state : State) : Type 0 where
  pub pending_is : session_state.pending ≡ stored state.pending
  pub report_is : session_state.report ≡ state.report

-- a service and its notes keep what a session has come to
pub record Keeps (held : ServiceWithSession) (state : State) : Type 0 where
  pub service_is : held.service ≡ after held.service state
  pub session_state_are : AreSessionState held.session_state state

-- a command was answered with this line, and the session goes on past the line of this number
pub record RepliesTo (command : Result Command LineFault) (here : Place) (old : ReadyState)
    (reply : Reply) (number : ℕ) (new : ServiceWithSession) (unread : Option (List (List ℕ))) : Type 0 where
  pub next : Place
  pub answers : Answers old.job command here (answered reply next)
  pub service_is : new.service ≡ after old next.state
  pub session_state_are : AreSessionState new.session_state next.state
  pub number_is : next.number ≡ number
  pub left_is : unread ≡ Some next.lines

-- a line was answered so, and the session goes on there
pub record AnswersLine (line : List ℕ) (here : Place) (old : ReadyState) (new : ServiceWithSession) (number : ℕ)
    (unread : Option (List (List ℕ))) (before now : Option (List ℕ)) : Type 0 where
  pub answer : Answer
  pub answers : Answers old.job (command_of line) here answer
  pub service_is : new.service ≡ after old answer.next.state
  pub session_state_are : AreSessionState new.session_state answer.next.state
  pub number_is : answer.next.number ≡ number
  pub left_is : unread ≡ Some answer.next.lines
  pub wrote : Appends before now answer.text

-- what was to be written couldn't be, or there was no memory for it
abbrev pub FailsToTell : ServeFault → Option (List ℕ) → Option (List ℕ) → Type 0
FailsToTell fault before now = (fault ≡ Write) ⊎ ((fault ≢ Write) × (now ≡ before))

-- a line couldn't be carried out, or its answer couldn't be written
abbrev pub FailsLine :
    ServeFault → List ℕ → Place → ReadyState → ReadyState
    → Option (List ℕ) → Option (List ℕ) → Type 0
FailsLine fault line here old new before now =
    ((fault ≢ Write) × (new ≡ old) × (now ≡ before))
    ⊎ ((fault ≡ Write) × (answer : Answer) × Answers old.job (command_of line) here answer
    × (new ≡ after old answer.next.state) × (answer.text ≢ []))
