-- A session, line by line.
use Rattle.std.proofs.Common.{◌≡◌, ◌≢◌, ℕ, ◌+◌, List, [], ◌∷◌, ◌++◌, Option, None, Some, IfSome, refl, sym, ap, subst, inl, inr, append-nil, append_assoc, ◌∙◌}
use Rattle.std.specs.Io.KnownBytes.{Appends}
use Rattle.pg_import.specs.Text.{raw_lines}
use Rattle.pregeld.specs.Job.{ReadyJob, ReadyState}
use Rattle.pregeld_commands.specs.Command.{command_of}
use Rattle.pregeld.specs.SessionState.{ServiceWithSession, Noted}
use Rattle.pregeld.specs.Reading.{lines_left}
use Rattle.pregeld.specs.Keeping.{AnswersLine, AreSessionState, FailsLine, Keeps}
use Rattle.pregeld.specs.Session.{Answer, Answers, BreaksOff, Place, Runs, Serves, State, after, first_place, opened, stop, go}
use Rattle.pregeld.specs.declared.session.ServeFault.{ServeFault}
use Rattle.pregeld.specs.declared.session.ServeFault.TheVariants.{Write}
use Rattle.pregeld.proofs.Commands.{opened_is}
use Rattle.pregeld.proofs.Pending.{stored_none}
use Rattle.pregeld.proofs.Written.{nothing_written, written_then}

-- from one place a session has come to another, with this text: what goes on from there goes on from the first
pub record SoFar (own : ReadyJob) (first here : Place) (text : List ℕ) : Type 0 where
  pub goes : (more : List ℕ) (end : Place) → Runs own here more end → Runs own first (text ++ more) end

not_yet : (own : ReadyJob) (first : Place) → SoFar own first first []
not_yet own first = record { goes = λ more end runs. runs }

whole : (own : ReadyJob) (first here : Place) (text : List ℕ) → SoFar own first here text → Runs own first text here
whole own first here text so_far = subst (λ t. Runs own first t here) (append-nil text) (so_far.goes [] here (stop here))

one_more : (own : ReadyJob) (first : Place) (text : List ℕ) (number : ℕ) (state : State) (line : List ℕ) (lines : List (List ℕ)) (answer : Answer)
    → SoFar own first (record { number = number; state = state; lines = line ∷ lines }) text
    → Answers own (command_of line) (record { number = number + 1; state = state; lines = lines }) answer
    → SoFar own first answer.next (text ++ answer.text)
one_more own first text number state line lines answer so_far answers = record {
  goes = λ more end runs. subst (λ t. Runs own first t end) (sym (append_assoc text answer.text more))
      (so_far.goes (answer.text ++ more) end (go number state line lines answer more end answers runs));
}

-- a service, what was read and what was written, in the midst of a session
pub record Midway (input : List ℕ) (old : ReadyState) (now : ServiceWithSession) (number : ℕ) (unread : Option (List (List ℕ))) (before written : Option (List ℕ)) :
    Type 0 where
  pub text : List ℕ
  pub state : State
  pub lines : List (List ℕ)
  pub so_far : SoFar old.job (first_place old input) (record { number = number; state = state; lines = lines }) text
  pub service_is : now.service ≡ after old state
  pub session_state_are : AreSessionState now.session_state state
  pub left_is : unread ≡ Some lines
  pub wrote : Appends before written text

pub at_first : (input : List ℕ) (known : Option (List ℕ)) (service : ReadyState) (session_state : Noted) (written : Option (List ℕ)) → known ≡ Some input
    → session_state ≡ record { pending = []; report = None }
    → Midway input service (record { service = service; session_state = session_state }) 0 (lines_left known) written written
at_first input known service session_state written known_is none = record {
  text = [];
  state = opened service;
  lines = raw_lines input;
  so_far = not_yet service.job (first_place service input);
  service_is = opened_is service;
  session_state_are = record { pending_is = ap (λ n. n.pending) none ∙ sym stored_none; report_is = ap (λ n. n.report) none };
  left_is = ap lines_left known_is;
  wrote = nothing_written written;
}

-- the service of a session keeps what the session has come to
pub keeps_midway : (old : ReadyState) (now : ServiceWithSession) (state : State) → now.service ≡ after old state → AreSessionState now.session_state state → Keeps now state
keeps_midway old now state now_is are = record { service_is = subst (λ s. s ≡ after s state) (sym now_is) refl; session_state_are = are }

-- where no line is left, the whole input was answered
pub at_end : (input : List ℕ) (old : ReadyState) (now : ServiceWithSession) (number : ℕ) (unread : Option (List (List ℕ))) (before written : Option (List ℕ))
    (m : Midway input old now number unread before written)
    → m.lines ≡ [] → Serves input old now.service before written
at_end input old now number unread before written m no_more = record {
  text = m.text;
  place = record { number = number; state = m.state; lines = m.lines };
  comes = record {
    runs = whole old.job (first_place old input) (record { number = number; state = m.state; lines = m.lines }) m.text m.so_far;
    service_is = m.service_is;
  };
  ends = no_more;
  wrote = m.wrote;
}

-- a session that breaks off between two lines
pub between_lines : (fault : ServeFault) (input : List ℕ) (old : ReadyState) (now : ServiceWithSession) (number : ℕ) (unread : Option (List (List ℕ)))
    (before written : Option (List ℕ))
    → fault ≢ Write → Midway input old now number unread before written → BreaksOff fault input old now.service before written
between_lines fault input old now number unread before written other m = record {
  text = m.text;
  place = record { number = number; state = m.state; lines = m.lines };
  comes = record {
    runs = whole old.job (first_place old input) (record { number = number; state = m.state; lines = m.lines }) m.text m.so_far;
    service_is = m.service_is;
  };
  wrote = λ _. m.wrote;
  unwritten = λ is. absurd (other is);
}

module _ (input : List ℕ) (old : ReadyState) (number : ℕ) (state : State) (line : List ℕ) (lines : List (List ℕ)) (text : List ℕ)
    (so_far : SoFar old.job (first_place old input) (record { number = number; state = state; lines = line ∷ lines }) text) where
  -- one more line is answered
  line_after : (now : ReadyState) (new : ServiceWithSession) (reached : ℕ) (unread : Option (List (List ℕ))) (before written more : Option (List ℕ)) → now
      ≡ after old state → Appends before written text
      → AnswersLine line (record { number = number + 1; state = state; lines = lines }) (after old state) new reached unread written more
      → Midway input old new reached unread before more
  line_after now new reached unread before written more now_is wrote a = record {
    text = text ++ a.answer.text;
    state = a.answer.next.state;
    lines = a.answer.next.lines;
    so_far = subst (λ n. SoFar old.job (first_place old input) (record { number = n; state = a.answer.next.state; lines = a.answer.next.lines })
        (text ++ a.answer.text)) a.number_is
        (one_more old.job (first_place old input) text number state line lines a.answer so_far a.answers);
    service_is = a.service_is;
    session_state_are = a.session_state_are;
    left_is = a.left_is;
    wrote = written_then before written more text a.answer.text wrote a.wrote;
  }

  -- a line is answered, and the answer can't be written
  unwritten : (new : ReadyState) (before now : Option (List ℕ)) (answer : Answer) → Answers old.job (command_of line)
      (record { number = number + 1; state = state; lines = lines }) answer
      → new ≡ after old answer.next.state → answer.text ≢ [] → BreaksOff Write input old new before now
  unwritten new before now answer answers new_is some = record {
    text = text ++ answer.text;
    place = answer.next;
    comes = record {
      runs = whole old.job (first_place old input) answer.next (text ++ answer.text) (one_more old.job (first_place old input) text number state line
          lines answer so_far answers);
      service_is = new_is;
    };
    wrote = λ other. absurd (other refl);
    unwritten = λ _. record {
      front = text;
      number = number;
      state = state;
      line = line;
      lines = lines;
      answer = answer;
      runs = whole old.job (first_place old input) (record { number = number; state = state; lines = line ∷ lines }) text so_far;
      answers = answers;
      some = some;
      text_is = refl;
      end_is = refl;
    };
  }

-- what holds of known bytes
pub if_known : {P : List ℕ → Type 0} (known : Option (List ℕ)) → ((input : List ℕ) → known ≡ Some input → P input) → IfSome known P
if_known None h = tt
if_known (Some input) h = h input refl

module _ (input : List ℕ) (old : ReadyState) (now : ServiceWithSession) (number : ℕ) (unread : Option (List (List ℕ))) (before written : Option (List ℕ))
    (m : Midway input old now number unread before written)
    (line : List ℕ) (rest : List (List ℕ)) (first : m.lines ≡ line ∷ rest) where
  abbrev here : Place
  here = record { number = number + 1; state = m.state; lines = rest }

  so_far_at : SoFar old.job (first_place old input) (record { number = number; state = m.state; lines = line ∷ rest }) m.text
  so_far_at = subst (λ ls. SoFar old.job (first_place old input) (record { number = number; state = m.state; lines = ls }) m.text) first m.so_far

  -- a line that is answered leads on
  pub goes_on : (new : ServiceWithSession) (reached : ℕ) (unread' : Option (List (List ℕ))) (more : Option (List ℕ)) → AnswersLine line here now.service new reached
      unread' written more → Midway input old new reached unread' before more
  goes_on new reached unread' more a =
      line_after input old number m.state line rest m.text so_far_at now.service new reached unread' before written more m.service_is m.wrote
      (subst (λ s. AnswersLine line here s new reached unread' written more) m.service_is a)

  -- a line that fails breaks the session off
  pub breaks_off : (fault : ServeFault) (new : ReadyState) (more : Option (List ℕ)) → FailsLine fault line here now.service new written more
      → BreaksOff fault input old new before more
  breaks_off fault new more (inl kept) =
      subst (λ w. BreaksOff fault input old new before w) (sym kept.2) (subst (λ s. BreaksOff fault input old s before written) (sym kept.1)
      (between_lines fault input old now number unread before written kept.0 m))
  breaks_off fault new more (inr failed) =
      subst (λ f. BreaksOff f input old new before more) (sym failed.0)
      (unwritten input old number m.state line rest m.text so_far_at new before more failed.1
      (subst (λ s. Answers s.job (command_of line) here failed.1) m.service_is failed.2)
      (subst (λ s. new ≡ after s failed.1.next.state) m.service_is failed.3) failed.4)
