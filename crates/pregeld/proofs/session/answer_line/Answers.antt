use Rattle.std.proofs.Common.{◌≡◌, Ok, Err, ap, sym, subst, ◌∙◌}
use Rattle.pregeld_commands.specs.Command.{command_of}
use Rattle.pregeld.specs.Keeping.{AnswersLine}
use Rattle.pregeld.specs.SessionState.{ServiceWithSession}
use Rattle.pregeld.specs.Reading.{lines_left}
use Rattle.pregeld.specs.Session.{Place}
use Rattle.pregeld_commands.specs.declared.command.Command.TheVariants.{Nothing, Edit, Act, Ask}
use Rattle.pregeld.specs.declared.reply.Reply.TheVariants.{Fault}
use Rattle.pregeld.proofs.Commands.{edit_answered, fault_replies, line_answered, line_unwritten, nothing_answered, query_answered, query_untold}
use Rattle.pregeld.proofs.Written.{nothing_written}
use Rattle.pregeld.proofs.session.answer_line.Goals as goal

pub returns-in-Ok-Nothing-clause-ok : goal.returns-in-Ok-Nothing-clause-ok
returns-in-Ok-Nothing-clause-ok g c state keeps lines there =
    let here : Place = record { number = c.args.line.number; state = state; lines = lines } in
    let held : ServiceWithSession = record { service = c.args.service.now; session_state = c.args.session_state.now } in
    let asks : command_of c.args.line.text.now ≡ Ok Nothing = sym c.command_of.ensures ∙ (c.in-Ok-Nothing.is ∙ ap Ok c.in-Ok-Nothing.field-0-is) in
    let written = g.W.Write.contents c.args.writer.now in
    nothing_answered c.args.line.text.now here held (lines_left (g.R.Read.remaining c.args.reader.now)) written written asks keeps there
    (nothing_written written)

-- edits

pub returns-in-Ok-clause-ok : goal.returns-in-Ok-clause-ok
returns-in-Ok-clause-ok g c state keeps lines there =
    let here : Place = record { number = c.args.line.number; state = state; lines = lines } in
    let held : ServiceWithSession = record { service = c.args.service.now; session_state = c.args.session_state.now } in
    let asks : command_of c.args.line.text.now ≡ Ok (Edit c.in-Ok-Edit.edit) = sym c.command_of.ensures ∙ (c.in-Ok-Edit.is ∙ ap Ok c.in-Ok-Edit.field-0-is) in
    let written = g.W.Write.contents c.args.writer.now in
    edit_answered c.args.line.text.now c.in-Ok-Edit.edit here held c.note.new.self (lines_left (g.R.Read.remaining c.args.reader.now)) written written asks
    keeps c.in-Ok.ensures.ok there (nothing_written written)

-- what is told

pub returns-in-Ok-answer_query-clause-ok : goal.returns-in-Ok-answer_query-clause-ok
returns-in-Ok-answer_query-clause-ok g c state keeps lines there =
    let here : Place = record { number = c.args.line.number; state = state; lines = lines } in
    let held : ServiceWithSession = record { service = c.args.service.now; session_state = c.args.session_state.now } in
    let asks : command_of c.args.line.text.now ≡ Ok (Ask c.in-Ok-Ask.query) = sym c.command_of.ensures ∙ (c.in-Ok-Ask.is ∙ ap Ok c.in-Ok-Ask.field-0-is) in
    query_answered c.args.line.text.now c.in-Ok-Ask.query here held (lines_left (g.R.Read.remaining c.args.reader.now))
    (g.W.Write.contents c.args.writer.now) (g.W.Write.contents c.answer_query.new.writer) asks keeps there c.in-Ok-answer_query.ensures.ok

pub returns-in-Err-answer_query-clause-err : goal.returns-in-Err-answer_query-clause-err
returns-in-Err-answer_query-clause-err g c state keeps lines there =
    let here : Place = record { number = c.args.line.number; state = state; lines = lines } in
    let held : ServiceWithSession = record { service = c.args.service.now; session_state = c.args.session_state.now } in
    let asks : command_of c.args.line.text.now ≡ Ok (Ask c.in-Ok-Ask.query) = sym c.command_of.ensures ∙ (c.in-Ok-Ask.is ∙ ap Ok c.in-Ok-Ask.field-0-is) in
    query_untold c.in-Err-answer_query.fault c.args.line.text.now c.in-Ok-Ask.query here held
    (g.W.Write.contents c.args.writer.now) (g.W.Write.contents c.answer_query.new.writer) asks keeps c.in-Err-answer_query.ensures.err

-- actions

pub returns-in-Ok-write_reply-clause-ok : goal.returns-in-Ok-write_reply-clause-ok
returns-in-Ok-write_reply-clause-ok g c state keeps lines there =
    let here : Place = record { number = c.args.line.number; state = state; lines = lines } in
    let command = Ok (Act c.in-Ok-Act.action) in
    let asks : command_of c.args.line.text.now ≡ command = sym c.command_of.ensures ∙ (c.in-Ok-Act.is ∙ ap Ok c.in-Ok-Act.field-0-is) in
    let pair = c.in_ok-reply-in-Ok-Act in
    let unread = lines_left (g.R.Read.remaining c.run_action.new.reader) in
    let written = g.W.Write.contents c.args.writer.now in
    let told = g.W.Write.contents c.write_reply.new.writer in
    subst (λ service. AnswersLine c.args.line.text.now here c.args.service.now
    (record { service = service; session_state = c.note_fault.new.self }) pair.reached unread written told)
    (sym c.drop_deferred.ensures)
    (subst (λ session_state. AnswersLine c.args.line.text.now here c.args.service.now
    (record { service = c.run_action.new.service; session_state = session_state }) pair.reached unread written told)
    (sym c.note_fault.ensures)
    (line_answered c.args.line.text.now command here c.args.service.now (record { service = c.run_action.new.service; session_state = c.run_action.new.session_state })
    pair.reply pair.reached unread written told asks (pair.ensures.ok state keeps lines there) c.in-Ok-write_reply.ensures.ok))

pub returns-in-Err-write_reply-clause-err : goal.returns-in-Err-write_reply-clause-err
returns-in-Err-write_reply-clause-err g c state keeps lines there =
    let here : Place = record { number = c.args.line.number; state = state; lines = lines } in
    let command = Ok (Act c.in-Ok-Act.action) in
    let asks : command_of c.args.line.text.now ≡ command = sym c.command_of.ensures ∙ (c.in-Ok-Act.is ∙ ap Ok c.in-Ok-Act.field-0-is) in
    let pair = c.in_ok-reply-in-Ok-Act in
    line_unwritten c.in-Err-write_reply.fault c.args.line.text.now command here c.args.service.now
    (record { service = c.run_action.new.service; session_state = c.run_action.new.session_state }) pair.reply pair.reached
    (lines_left (g.R.Read.remaining c.run_action.new.reader))
    (g.W.Write.contents c.args.writer.now) (g.W.Write.contents c.write_reply.new.writer) asks (pair.ensures.ok state keeps lines there) c.in-Err-write_reply.ensures.err

-- faults

pub returns-in-Ok-write_reply-2-clause-ok : goal.returns-in-Ok-write_reply-2-clause-ok
returns-in-Ok-write_reply-2-clause-ok g c state keeps lines there =
    let here : Place = record { number = c.args.line.number; state = state; lines = lines } in
    let held : ServiceWithSession = record { service = c.args.service.now; session_state = c.args.session_state.now } in
    let unread = lines_left (g.R.Read.remaining c.args.reader.now) in
    let asks : command_of c.args.line.text.now ≡ Err c.in-Err.fault = sym c.command_of.ensures ∙ c.in-Err.is in
    subst (λ session_state. AnswersLine c.args.line.text.now here c.args.service.now (record { service = c.args.service.now; session_state = session_state }) c.args.line.number unread
    (g.W.Write.contents c.args.writer.now) (g.W.Write.contents c.write_reply-in-Err.new.writer)) (sym c.note_fault-in-Err.ensures)
    (line_answered c.args.line.text.now (Err c.in-Err.fault) here c.args.service.now held (Fault c.in-Err.fault c.args.line.number) c.args.line.number unread
    (g.W.Write.contents c.args.writer.now) (g.W.Write.contents c.write_reply-in-Err.new.writer) asks
    (fault_replies c.in-Err.fault here held unread keeps there) c.in-Ok-write_reply-2.ensures.ok)

pub returns-in-Err-write_reply-2-clause-err : goal.returns-in-Err-write_reply-2-clause-err
returns-in-Err-write_reply-2-clause-err g c state keeps lines there =
    let here : Place = record { number = c.args.line.number; state = state; lines = lines } in
    let held : ServiceWithSession = record { service = c.args.service.now; session_state = c.args.session_state.now } in
    let unread = lines_left (g.R.Read.remaining c.args.reader.now) in
    let asks : command_of c.args.line.text.now ≡ Err c.in-Err.fault = sym c.command_of.ensures ∙ c.in-Err.is in
    line_unwritten c.in-Err-write_reply-2.fault c.args.line.text.now (Err c.in-Err.fault) here c.args.service.now held (Fault c.in-Err.fault c.args.line.number)
    c.args.line.number unread
    (g.W.Write.contents c.args.writer.now) (g.W.Write.contents c.write_reply-in-Err.new.writer) asks
    (fault_replies c.in-Err.fault here held unread keeps there) c.in-Err-write_reply-2.ensures.err
