-- What actions are answered, beside what a session may be answered.
use Rattle.std.proofs.Common.{◌≡◌, ℕ, ◌+◌, true, false, nat_lt, List, [], ◌∷◌, length, take, drop, Option, None, Some, Ok, refl, sym, ap, subst}
use Rattle.std.proofs.Common.{◌∙◌, inl, inr, arith}
use Rattle.std.specs.List.{concat}
use Rattle.std.proofs.lemmas.Bool.Decides.{nat_tests}
use Rattle.std.proofs.lemmas.Grind.{common_steps}
use Rattle.pg_graph.specs.Handed.{Edit}
use Rattle.pregeld.specs.Job.{ReadyState, ready_job}
use Rattle.pregeld.specs.SessionState.{ServiceWithSession, Noted, stored}
use Rattle.pregeld.specs.Reading.{SkipsLines, TakesLines}
use Rattle.pregeld.specs.Keeping.{AreSessionState, Checks, Edits, Imports, ImportsLines, Keeps, Refreshes, RepliesTo}
use Rattle.pg_service.specs.Service.{next_graph}
use Rattle.pregeld.specs.Session.{Imported, Place, State, after, action_answer, answer_to, answered, edges_of, edited, emptied, import_answer}
use Rattle.pregeld.specs.Session.{Answers, MayReportAt, imported, no_fate, past, refresh_answer}
use Rattle.pregeld.specs.Reply.{summary_of}
use Rattle.pg_service.specs.declared.report.Report.{Report}
use Rattle.pg_service.proofs.Refreshed.{report_is_of}
use Rattle.pg_service.specs.Handed.{Loss}
use Rattle.std.specs.Ordering.{int_eq}
use Rattle.pregeld.specs.declared.block.Block.{Block}
use Rattle.pregeld.specs.declared.block.Block.TheVariants.{Whole, CutShort, NoMemory}
use Rattle.pregeld_commands.specs.declared.command.Action.TheVariants.{Commit, Import, Refresh, Recompute}
use Rattle.pregeld_commands.specs.declared.command.Command.TheVariants.{Act}
use Rattle.pregeld_commands.specs.declared.command.Form.{Form}
use Rattle.pregeld_commands.specs.declared.command.LineFault.TheVariants as fault
use Rattle.pregeld.specs.declared.reply.Reply.{Reply}
use Rattle.pregeld.specs.declared.reply.Reply.TheVariants.{Fault, Refreshed}
use Rattle.pregeld.proofs.Pending.{next_of_stored, none_pending, stored_none, tried_of_stored}

-- ---- refreshes

-- a refresh is answered as where nobody fell, or as where somebody did
reported_at : (s : ReadyState) (here : Place) (reply : Reply) (report : Report) (losses : List Loss) → report.losses ≡ losses
    → MayReportAt s.job here.state report → reply ≡ Refreshed (summary_of report)
    → Answers s.job (Ok (Act Refresh)) here (answered reply (refresh_answer s.job report here).next)
unfolding answer_to action_answer
reported_at s here reply report [] none may replies =
    let alike = report_is_of (ready_job s.job) int_eq int_eq no_fate s.job.limits here.state.kept here.state.edition here.state.graph report may none in
    inl (ap (λ r. answered r (refresh_answer s.job report here).next) replies ∙ ap (λ (r : Report). refresh_answer s.job r here) alike)
reported_at s here reply report (loss ∷ losses) some may replies =
    inr (inl (report, may, λ none. cc (none, some), ap (λ r. answered r (refresh_answer s.job report here).next) replies))

refreshes_at : (s : ReadyState) (session_state : Noted) (here : Place) (reply : Reply) (new : ServiceWithSession) (unread : Option (List (List ℕ)))
    → AreSessionState session_state here.state → unread ≡ Some here.lines
    → Refreshes (record { service = after s here.state; session_state = session_state }) reply new → RepliesTo (Ok (Act Refresh)) here (after s here.state) reply
    here.number new unread
refreshes_at s session_state here reply new unread are left_is (inl (report, may, replies, is, noted)) =
    record {
      next = (refresh_answer s.job report here).next;
      answers = reported_at s here reply report report.losses refl may replies;
      service_is = is;
      session_state_are = record {
        pending_is = ap (λ (n : Noted). n.pending) noted ∙ are.pending_is;
        report_is = ap (λ (n : Noted). n.report) noted;
      };
      number_is = refl;
      left_is = left_is;
    }
refreshes_at s session_state here reply new unread are left_is (inr (fault, may, replies, is)) = record {
  next = record here { state = record here.state { kept = None } };
  answers = inr (inr (fault, may, ap (λ r. answered r (record here { state = record here.state { kept = None } })) replies));
  service_is = ap (λ (h : ServiceWithSession). h.service) is;
  session_state_are = record {
    pending_is = ap (λ (h : ServiceWithSession). h.session_state.pending) is ∙ are.pending_is;
    report_is = ap (λ (h : ServiceWithSession). h.session_state.report) is ∙ are.report_is;
  };
  number_is = refl;
  left_is = left_is;
}

pub refresh_replies : (here : Place) (old : ReadyState) (session_state : Noted) (reply : Reply) (new : ServiceWithSession) (unread : Option (List (List ℕ)))
    → Keeps (record { service = old; session_state = session_state }) here.state → unread ≡ Some here.lines
    → Refreshes (record { service = old; session_state = session_state }) reply new → RepliesTo (Ok (Act Refresh)) here old reply here.number new unread
refresh_replies here old session_state reply new unread keeps left_is =
    subst (λ o. Refreshes (record { service = o; session_state = session_state }) reply new → RepliesTo (Ok (Act Refresh)) here o reply here.number new unread)
    (sym keeps.service_is)
    (refreshes_at old session_state here reply new unread keeps.session_state_are left_is)

-- ---- checks

checks_at : (s : ReadyState) (session_state : Noted) (here : Place) (reply : Reply) (unread : Option (List (List ℕ))) → AreSessionState session_state here.state → unread
    ≡ Some here.lines
    → Checks (after s here.state) reply → RepliesTo (Ok (Act Recompute)) here (after s here.state) reply here.number
    (record { service = after s here.state; session_state = session_state }) unread
unfolding answer_to action_answer
checks_at s session_state here reply unread are left_is checked = record {
  next = here;
  answers = elim checked [ inl done ↦ inl (ap (λ r. answered r here) done) | inr refused ↦ inr (ap (λ r. answered r here) refused) ];
  service_is = refl;
  session_state_are = are;
  number_is = refl;
  left_is = left_is;
}

pub check_replies : (here : Place) (held : ServiceWithSession) (reply : Reply) (unread : Option (List (List ℕ))) → Keeps held here.state → unread ≡ Some here.lines
    → Checks held.service reply → RepliesTo (Ok (Act Recompute)) here held.service reply here.number held unread
check_replies here held reply unread keeps left_is =
    subst (λ o. Checks o reply → RepliesTo (Ok (Act Recompute)) here o reply here.number (record { service = o; session_state = held.session_state }) unread)
    (sym keeps.service_is)
    (checks_at held.service held.session_state here reply unread keeps.session_state_are left_is)

-- ---- commits

-- where the pending edits are emptied, none is pending
none_noted : (session_state now : Noted) (state : State) → AreSessionState session_state state → now ≡ record session_state { pending = [] } → AreSessionState now (emptied state)
none_noted session_state now state are now_is = record {
  pending_is = ap (λ n. n.pending) now_is ∙ sym stored_none;
  report_is = ap (λ n. n.report) now_is ∙ are.report_is;
}

commits_at : (s : ReadyState) (session_state now : Noted) (here : Place) (reply : Reply) (new : ReadyState) (unread : Option (List (List ℕ)))
    → AreSessionState session_state here.state → unread ≡ Some here.lines
    → now ≡ record session_state { pending = [] } → Edits session_state.pending (after s here.state) reply new
    → RepliesTo (Ok (Act Commit)) here (after s here.state) reply here.number (record { service = new; session_state = now }) unread
unfolding answer_to action_answer
commits_at s session_state now here reply new unread are left_is now_is (inl done) =
    let state = here.state in
    let same : next_graph state.edition state.graph session_state.pending ≡ next_graph state.edition state.graph state.pending =
    ap (next_graph state.edition state.graph) are.pending_is ∙ next_of_stored state.edition state.graph state.pending in
    let made : Imported = edited (next_graph state.edition state.graph state.pending) state.edition state.graph in
    let told : (reply ≡ made.reply) × (new ≡ record (after s state) { edition = made.edition; graph = made.graph }) = rw same at done in
    let next : Place = record here { state = record (emptied state) { edition = made.edition; graph = made.graph } } in
    let none = none_noted session_state now state are now_is in
    record {
      next = next;
      answers = inl (ap (λ r. answered r next) told.0);
      service_is = told.1;
      session_state_are = record { pending_is = none.pending_is; report_is = none.report_is };
      number_is = refl;
      left_is = left_is;
    }
commits_at s session_state now here reply new unread are left_is now_is (inr refused) =
    let next : Place = record here { state = emptied here.state } in
    record {
      next = next;
      answers = inr (tried_of_stored here.state.edition here.state.pending (rw are.pending_is at refused.2), ap (λ r. answered r next) refused.1);
      service_is = refused.0;
      session_state_are = none_noted session_state now here.state are now_is;
      number_is = refl;
      left_is = left_is;
    }

pub commit_replies : (here : Place) (old : ReadyState) (session_state now : Noted) (reply : Reply) (new : ReadyState) (unread : Option (List (List ℕ)))
    → Keeps (record { service = old; session_state = session_state }) here.state
    → unread ≡ Some here.lines → now ≡ record session_state { pending = [] } → Edits session_state.pending old reply new
    → RepliesTo (Ok (Act Commit)) here old reply here.number (record { service = new; session_state = now }) unread
commit_replies here old session_state now reply new unread keeps left_is now_is =
    subst (λ o. Edits session_state.pending o reply new → RepliesTo (Ok (Act Commit)) here o reply here.number (record { service = new; session_state = now }) unread)
    (sym keeps.service_is)
    (commits_at old session_state now here reply new unread keeps.session_state_are left_is now_is)

-- ---- imports

-- beside pending edits, an import is a fault
beside_edits : (edits : List Edit) (form : Form) (n : ℕ) (here : Place) → (edits ≡ [] → ⊥) → import_answer edits form n here
    ≡ answered (Fault fault.EditsPending here.number) (past n here)
beside_edits [] form n here some = absurd (some refl)
beside_edits (edit ∷ edits) form n here some = refl

-- so many lines were set aside, or all that there were
lines_aside : (block : Block) (n : ℕ) (lines : List (List ℕ)) (unread : Option (List (List ℕ))) → SkipsLines n block lines unread → unread ≡ Some (drop n lines)
lines_aside Whole n lines unread skipped = absurd skipped
lines_aside NoMemory n lines unread skipped = skipped.1
lines_aside CutShort n lines unread skipped = let none : drop n lines ≡ [] = grind (arith, common_steps, skipped.0) in skipped.1 ∙ ap Some (sym none)

pub aside_replies : (form : Form) (n : ℕ) (block : Block) (here : Place) (held : ServiceWithSession) (unread : Option (List (List ℕ))) → Keeps held here.state
    → (held.session_state.pending ≡ [] → ⊥)
    → SkipsLines n block here.lines unread → RepliesTo (Ok (Act (Import form n))) here held.service (Fault fault.EditsPending here.number)
    (here.number + n) held unread
unfolding answer_to action_answer
aside_replies form n block here held unread keeps some skipped = record {
  next = past n here;
  answers = inl (sym (beside_edits here.state.pending form n here (λ none. some (keeps.session_state_are.pending_is ∙ (ap stored none ∙ stored_none)))));
  service_is = keeps.service_is;
  session_state_are = keeps.session_state_are;
  number_is = refl;
  left_is = lines_aside block n here.lines unread skipped;
}

-- the lines of an import were read, and its block was answered
pub lines_imported : (form : Form) (n : ℕ) (lines : List (List ℕ)) (block : List ℕ) (old : ReadyState) (reply : Reply) (new : ReadyState)
    (unread : Option (List (List ℕ)))
    → TakesLines n Whole lines [] block unread → Imports (edges_of form block) old reply new → ImportsLines form n lines old (Some reply) new unread
lines_imported form n lines block old reply new unread taken imports =
    (taken.0, subst (λ t. Imports (edges_of form t) old reply new) taken.1 imports, taken.2)

-- where none is pending, no edit stands before an import
alone_at : (held : ServiceWithSession) (state : State) → Keeps held state → held.session_state.pending ≡ [] → state.pending ≡ []
alone_at held state keeps none = none_pending state.pending (sym keeps.session_state_are.pending_is ∙ none)

-- an import that is cut short applies nothing
pub cut_short_replies : (form : Form) (n : ℕ) (here : Place) (held : ServiceWithSession) (new : ReadyState) (unread : Option (List (List ℕ)))
    → Keeps held here.state → held.session_state.pending ≡ []
    → ImportsLines form n here.lines held.service None new unread
    → RepliesTo (Ok (Act (Import form n))) here held.service (Fault fault.CutShort here.number) here.number (record { service = new; session_state = held.session_state }) unread
unfolding answer_to action_answer
cut_short_replies form n here held new unread keeps none taken =
    let short : nat_lt (length here.lines) n ≡ true = grind (arith, nat_tests, taken.0) in
    record {
      next = record here { lines = [] };
      answers = inl (sym (ap (λ es. import_answer es form n here) (alone_at held here.state keeps none) ∙ rw short refl));
      service_is = taken.1 ∙ keeps.service_is;
      session_state_are = keeps.session_state_are;
      number_is = refl;
      left_is = taken.2;
    }

imports_at : (form : Form) (n : ℕ) (s : ReadyState) (session_state : Noted) (here : Place) (reply : Reply) (new : ReadyState)
    (unread : Option (List (List ℕ))) → AreSessionState session_state here.state → here.state.pending ≡ []
    → ImportsLines form n here.lines (after s here.state) (Some reply) new unread
    → RepliesTo (Ok (Act (Import form n))) here (after s here.state) reply (here.number + n) (record { service = new; session_state = session_state }) unread
unfolding answer_to action_answer
imports_at form n s session_state here reply new unread are none (there, inl done, left_is) =
    let within : nat_lt (length here.lines) n ≡ false = grind (arith, nat_tests, there) in
    let now : Imported = imported (edges_of form (concat (take n here.lines))) here.state.edition here.state.graph in
    let next : Place = record (past n here) { state = record here.state { edition = now.edition; graph = now.graph } } in
    record {
      next = next;
      answers = inl (ap (λ r. answered r next) done.0 ∙ sym (ap (λ es. import_answer es form n here) none ∙ rw within refl));
      service_is = done.1;
      session_state_are = record { pending_is = are.pending_is; report_is = are.report_is };
      number_is = refl;
      left_is = left_is;
    }
imports_at form n s session_state here reply new unread are none (there, inr refused, left_is) = record {
  next = past n here;
  answers = inr (reply, (none, there, refused.1), refl);
  service_is = refused.0;
  session_state_are = are;
  number_is = refl;
  left_is = left_is;
}

pub import_replies : (form : Form) (n : ℕ) (here : Place) (old : ReadyState) (session_state : Noted) (reply : Reply) (new : ReadyState)
    (unread : Option (List (List ℕ)))
    → Keeps (record { service = old; session_state = session_state }) here.state → session_state.pending ≡ [] → ImportsLines form n here.lines old (Some reply) new unread
    → RepliesTo (Ok (Act (Import form n))) here old reply (here.number + n) (record { service = new; session_state = session_state }) unread
import_replies form n here old session_state reply new unread keeps none =
    subst (λ o. ImportsLines form n here.lines o (Some reply) new unread → RepliesTo (Ok (Act (Import form n))) here o reply (here.number + n)
    (record { service = new; session_state = session_state }) unread) (sym keeps.service_is)
    (imports_at form n old session_state here reply new unread keeps.session_state_are (alone_at (record { service = old; session_state = session_state }) here.state keeps none))
