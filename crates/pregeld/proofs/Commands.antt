-- What lines are answered, beside what a session may be answered.
use Rattle.std.proofs.Common.{◌≡◌, ◌≢◌, ℕ, ℤ, List, [], ◌∷◌, ◌++◌, length, flat_map, Option, None, Some, Result, Ok, Err, refl, sym}
use Rattle.std.proofs.Common.{ap, ap₂, subst, ◌∙◌, inl, inr, codes}
use Rattle.std.specs.Io.KnownBytes.{Appends}
use Rattle.std.specs.Fmt.{signed_decimal}
use Rattle.pg_graph.specs.Handed.{Edit as OneEdit}
use Rattle.pg_service.specs.Handed.{aggregate_of}
use Rattle.pg_service.specs.Service.{last_published}
use Rattle.pregeld.specs.Job.{ReadyJob, ReadyState, ready_names}
use Rattle.pregeld_commands.specs.Command.{command_of}
use Rattle.pregeld.specs.SessionState.{ServiceWithSession, Noted, stored}
use Rattle.pregeld.specs.Keeping.{AnswersLine, AreSessionState, FailsLine, FailsToTell, Keeps, RepliesTo}
use Rattle.pregeld.specs.Reply.{line_of_aggregate, line_of_reply, line_of_value, text_of}
use Rattle.pg_service.specs.Printed.{json_text}
use Rattle.pregeld.specs.Session.{Answer, Answers, Place, State, after, answer_to, answered, get_reply, noted, opened, query_text}
use Rattle.pregeld_commands.specs.declared.command.Command.{Command}
use Rattle.pregeld_commands.specs.declared.command.Command.TheVariants.{Nothing, Edit, Ask}
use Rattle.pregeld_commands.specs.declared.command.LineFault.{LineFault}
use Rattle.pg_model.specs.Publications.{Publication}
use Rattle.pg_service.specs.declared.report.Report.{Report}
use Rattle.pregeld_commands.specs.declared.command.Query.{Query}
use Rattle.pregeld_commands.specs.declared.command.Query.TheVariants.{Aggregate, Dump, Get, Reported}
use Rattle.pregeld.specs.declared.reply.Reply.{Reply}
use Rattle.pregeld.specs.declared.reply.Reply.TheVariants.{End, Fault, Unpublished}
use Rattle.pregeld.specs.declared.session.ServeFault.{ServeFault}
use Rattle.pregeld.specs.declared.session.ServeFault.TheVariants.{Write}
use Rattle.pregeld.proofs.Pending.{stored_later}

-- what a session begins with is what its service keeps
pub opened_is : (service : ReadyState) → service ≡ after service (opened service)
opened_is service = refl

-- ---- no answer is empty

some_later : (xs ys : List ℕ) → ys ≢ [] → xs ++ ys ≢ []
some_later [] ys some none = some none
some_later (x ∷ xs) ys some none = absurd cc

one_some : (x : ℕ) → x ∷ [] ≢ []
one_some x none = absurd cc

line_some : (reply : Reply) → line_of_reply reply ≢ []
line_some reply = some_later (text_of reply) (10 ∷ []) (one_some 10)

aggregate_some : (name : List ℕ) (value : Option ℤ) → line_of_aggregate name value ≢ []
aggregate_some name None = some_later (codes "none " ++ name) (10 ∷ []) (one_some 10)
aggregate_some name (Some value) =
    some_later (codes "aggregate " ++ name ++ codes " " ++ signed_decimal value) (10 ∷ []) (one_some 10)

query_some : (own : ReadyJob) (query : Query) (published : Option (Publication ℤ)) (report : Option Report) → query_text own query published report ≢ []
query_some own Dump None report = line_some Unpublished
query_some own Dump (Some p) report = some_later (flat_map line_of_value p.answer.values) (line_of_reply (End (length p.answer.values)))
    (line_some (End (length p.answer.values)))
query_some own (Get id) published report = line_some (get_reply id published)
query_some own (Aggregate name) None report = line_some Unpublished
query_some own (Aggregate name) (Some p) report = aggregate_some name (aggregate_of name (ready_names own) p.answer.aggregates)
query_some own Reported published None = line_some Unpublished
query_some own Reported published (Some report) = some_later (json_text report) (10 ∷ []) (one_some 10)

-- ---- one line that answers a command

pub line_answered : (line : List ℕ) (command : Result Command LineFault) (here : Place) (old : ReadyState) (new : ServiceWithSession) (reply : Reply) (number : ℕ)
    (unread : Option (List (List ℕ))) (before now : Option (List ℕ))
    → command_of line ≡ command → RepliesTo command here old reply number new unread → Appends before now (line_of_reply reply)
    → AnswersLine line here old new number unread before now
line_answered line command here old new reply number unread before now asks r wrote = record {
  answer = answered reply r.next;
  answers = subst (λ c. Answers old.job c here (answered reply r.next)) (sym asks) r.answers;
  service_is = r.service_is;
  session_state_are = r.session_state_are;
  number_is = r.number_is;
  left_is = r.left_is;
  wrote = wrote;
}

-- the line can't be written
pub line_unwritten : (fault : ServeFault) (line : List ℕ) (command : Result Command LineFault) (here : Place) (old : ReadyState) (new : ServiceWithSession)
    (reply : Reply) (number : ℕ) (unread : Option (List (List ℕ))) (before now : Option (List ℕ))
    → command_of line ≡ command → RepliesTo command here old reply number new unread → fault ≡ Write → FailsLine fault line here old new.service before now
line_unwritten fault line command here old new reply number unread before now asks r failed =
    inr (failed, answered reply r.next, subst (λ c. Answers old.job c here (answered reply r.next)) (sym asks) r.answers, r.service_is, line_some reply)

-- a line with a fault changes nothing
pub fault_replies : (fault : LineFault) (here : Place) (held : ServiceWithSession) (unread : Option (List (List ℕ))) → Keeps held here.state → unread ≡ Some here.lines
    → RepliesTo (Err fault) here held.service (Fault fault here.number) here.number held unread
unfolding answer_to
fault_replies fault here held unread keeps left_is =
    record { next = here; answers = inl refl; service_is = keeps.service_is; session_state_are = keeps.session_state_are; number_is = refl; left_is = left_is }

-- ---- lines with another answer

-- a command with this answer was carried out, and the answer is written
pub rest_answered : (line : List ℕ) (command : Result Command LineFault) (here : Place) (old : ReadyState) (new : ServiceWithSession) (answer : Answer)
    (unread : Option (List (List ℕ))) (before now : Option (List ℕ))
    → command_of line ≡ command → answer_to old.job command here ≡ answer → new.service ≡ after old answer.next.state → AreSessionState new.session_state answer.next.state
    → unread ≡ Some answer.next.lines → Appends before now answer.text → AnswersLine line here old new answer.next.number unread before now
rest_answered line command here old new answer unread before now asks is service_is session_state_are left_is wrote = record {
  answer = answer;
  answers = inl (sym (ap (λ c. answer_to old.job c here) asks ∙ is));
  service_is = service_is;
  session_state_are = session_state_are;
  number_is = refl;
  left_is = left_is;
  wrote = wrote;
}

-- a line that asks for nothing
pub nothing_answered : (line : List ℕ) (here : Place) (held : ServiceWithSession) (unread : Option (List (List ℕ))) (before now : Option (List ℕ)) → command_of line
    ≡ Ok Nothing → Keeps held here.state → unread ≡ Some here.lines
    → Appends before now [] → AnswersLine line here held.service held here.number unread before now
unfolding answer_to
nothing_answered line here held unread before now asks keeps left_is wrote =
    rest_answered line (Ok Nothing) here held.service held (record { text = []; next = here }) unread before now asks refl keeps.service_is
    keeps.session_state_are left_is wrote

-- an edit that is noted
edit_noted : (edit : OneEdit) (session_state now : Noted) (state : State) → AreSessionState session_state state → now
    ≡ record session_state { pending = stored (session_state.pending ++ edit ∷ []) } → AreSessionState now (noted edit state)
edit_noted edit session_state now state are now_is = record {
  pending_is = ap (λ n. n.pending) now_is ∙ (ap (λ es. stored (es ++ edit ∷ [])) are.pending_is ∙ stored_later state.pending edit);
  report_is = ap (λ n. n.report) now_is ∙ are.report_is;
}

pub edit_answered : (line : List ℕ) (edit : OneEdit) (here : Place) (held : ServiceWithSession) (session_state : Noted) (unread : Option (List (List ℕ)))
    (before now : Option (List ℕ)) → command_of line ≡ Ok (Edit edit)
    → Keeps held here.state → session_state ≡ record held.session_state { pending = stored (held.session_state.pending ++ edit ∷ []) } → unread ≡ Some here.lines
    → Appends before now [] → AnswersLine line here held.service (record { service = held.service; session_state = session_state }) here.number unread before now
unfolding answer_to
edit_answered line edit here held session_state unread before now asks keeps session_state_is left_is wrote =
    rest_answered line (Ok (Edit edit)) here held.service (record { service = held.service; session_state = session_state })
    (record { text = []; next = record here { state = noted edit here.state } }) unread before now asks refl
    keeps.service_is (edit_noted edit held.session_state session_state here.state keeps.session_state_are session_state_is) left_is wrote

-- what was published last, by the service and by the session
published_is : (service : ReadyState) (state : State) → service ≡ after service state
    → last_published service.told.list ≡ last_published state.publications
published_is service state is = ap (λ s. last_published s.told.list) is

-- what is told
query_is : (own : ReadyJob) (query : Query) (here : Place) (held : ServiceWithSession) → Keeps held here.state
    → query_text own query (last_published here.state.publications) here.state.report ≡ query_text own query
    (last_published held.service.told.list) held.session_state.report
query_is own query here held keeps = ap₂ (query_text own query) (sym (published_is held.service here.state keeps.service_is)) (sym keeps.session_state_are.report_is)

pub query_answered : (line : List ℕ) (query : Query) (here : Place) (held : ServiceWithSession) (unread : Option (List (List ℕ))) (before now : Option (List ℕ))
    → command_of line ≡ Ok (Ask query)
    → Keeps held here.state → unread ≡ Some here.lines
    → Appends before now (query_text held.service.job query (last_published held.service.told.list) held.session_state.report) → AnswersLine line here held.service held
    here.number unread before now
unfolding answer_to
query_answered line query here held unread before now asks keeps left_is wrote =
    rest_answered line (Ok (Ask query)) here held.service held
    (record { text = query_text held.service.job query (last_published held.service.told.list) held.session_state.report; next = here }) unread before now asks
    (ap (λ t. record { text = t; next = here }) (query_is held.service.job query here held keeps)) keeps.service_is keeps.session_state_are left_is wrote

-- what was to be told can't be
pub query_untold : (fault : ServeFault) (line : List ℕ) (query : Query) (here : Place) (held : ServiceWithSession) (before now : Option (List ℕ)) → command_of line
    ≡ Ok (Ask query) → Keeps held here.state
    → FailsToTell fault before now → FailsLine fault line here held.service held.service before now
unfolding answer_to
query_untold fault line query here held before now asks keeps (inl failed) =
    inr (
      failed,
      record { text = query_text held.service.job query (last_published here.state.publications) here.state.report; next = here },
      inl
          (ap (λ c. answer_to held.service.job c here) (sym asks)),
      keeps.service_is,
      query_some held.service.job query
          (last_published here.state.publications) here.state.report,
    )
query_untold fault line query here held before now asks keeps (inr other) = inl (other.0, refl, other.1)
