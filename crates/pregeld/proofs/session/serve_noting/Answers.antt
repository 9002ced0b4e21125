use Rattle.std.proofs.lemmas.Result.{err_from_is_err_and}
use Rattle.std.proofs.Common.{◌≡◌, ◌≢◌, ◌+◌, List, ℕ, option_map, rules, subst}
use Rattle.pregeld.specs.SessionState.{ServiceWithSession}
use Rattle.pregeld.specs.Reading.{NextLine, lines_left}
use Rattle.pregeld.specs.Keeping.{AnswersLine, FailsLine}
use Rattle.pregeld.specs.declared.session.ServeFault.TheVariants.{Read, Write}
use Rattle.pregeld.proofs.Serving.{at_end, at_first, between_lines, breaks_off, goes_on, if_known, keeps_midway}
use Rattle.pregeld.proofs.session.serve_noting.Goals as goal

read_is_not_write : Read ≢ Write
read_is_not_write same = absurd cc

pub loop-turn-init : goal.loop-turn-init
loop-turn-init g c input there = at_first input (g.R.Read.remaining c.args.reader.now) c.args.service.now c.args.session_state.now
    (g.W.Write.contents c.args.writer.now) there c.requires

pub returns-in_default-clause-ok : goal.returns-in_default-clause-ok
returns-in_default-clause-ok g c =
    if_known (g.R.Read.remaining c.args.reader.now) (λ input there.
    let m = c.loop-turn.invariant input there in
    let none = subst (λ o. NextLine (option_map (λ bytes. bytes.items) o) m.lines (lines_left (g.R.Read.remaining c.next_line.new.reader)))
    c.in_default.is (c.in_ok-line.ensures.ok m.lines m.left_is) in
    at_end input c.args.service.now (record { service = c.loop-turn.service; session_state = c.loop-turn.session_state }) c.loop-turn.number
    (lines_left (g.R.Read.remaining c.loop-turn.reader)) (g.W.Write.contents c.args.writer.now) (g.W.Write.contents c.loop-turn.writer) m none)

pub returns-in_err-line-clause-err : goal.returns-in_err-line-clause-err
returns-in_err-line-clause-err g c =
    let p = err_from_is_err_and c.from_residual.result c.from_residual.ensures.1 in
    rw (p.1, p.2) (if_known (g.R.Read.remaining c.args.reader.now) (λ input there.
    between_lines _ input c.args.service.now (record { service = c.loop-turn.service; session_state = c.loop-turn.session_state }) c.loop-turn.number
    (lines_left (g.R.Read.remaining c.loop-turn.reader)) (g.W.Write.contents c.args.writer.now) (g.W.Write.contents c.loop-turn.writer)
    c.in_err-line.ensures.err (c.loop-turn.invariant input there)))

pub returns-in_default-checked_add-clause-err : goal.returns-in_default-checked_add-clause-err
returns-in_default-checked_add-clause-err g c =
    if_known (g.R.Read.remaining c.args.reader.now) (λ input there.
    between_lines Read input c.args.service.now (record { service = c.loop-turn.service; session_state = c.loop-turn.session_state }) c.loop-turn.number
    (lines_left (g.R.Read.remaining c.loop-turn.reader)) (g.W.Write.contents c.args.writer.now) (g.W.Write.contents c.loop-turn.writer)
    read_is_not_write (c.loop-turn.invariant input there))

pub returns-clause-err : goal.returns-clause-err
returns-clause-err g c =
    if_known (g.R.Read.remaining c.args.reader.now) (λ input there.
    between_lines Read input c.args.service.now (record { service = c.loop-turn.service; session_state = c.loop-turn.session_state }) c.loop-turn.number
    (lines_left (g.R.Read.remaining c.loop-turn.reader)) (g.W.Write.contents c.args.writer.now) (g.W.Write.contents c.loop-turn.writer)
    read_is_not_write (c.loop-turn.invariant input there))

pub returns-in-Err-clause-err : goal.returns-in-Err-clause-err
returns-in-Err-clause-err g c =
    if_known (g.R.Read.remaining c.args.reader.now) (λ input there.
    let m = c.loop-turn.invariant input there in
    let now : ServiceWithSession = record { service = c.loop-turn.service; session_state = c.loop-turn.session_state } in
    let read = subst (λ o. NextLine (option_map (λ bytes. bytes.items) o) m.lines (lines_left (g.R.Read.remaining c.next_line.new.reader)))
    c.in-Some.is (c.in_ok-line.ensures.ok m.lines m.left_is) in
    let failed = c.in-Err.ensures.err m.state (keeps_midway c.args.service.now now m.state m.service_is m.session_state_are) read.0 read.2 in
    let told = subst (λ (l : List ℕ). FailsLine c.in-Err.fault l (record { number = c.in-Some-checked_add.here; state = m.state; lines = read.0 })
    now.service c.answer_line.new.service (g.W.Write.contents c.loop-turn.writer) (g.W.Write.contents c.answer_line.new.writer))
    c.as_slice.ensures.value failed in
    let here : c.in-Some-checked_add.here ≡ c.loop-turn.number + 1 = search rules in
    breaks_off input c.args.service.now now c.loop-turn.number (lines_left (g.R.Read.remaining c.loop-turn.reader))
    (g.W.Write.contents c.args.writer.now) (g.W.Write.contents c.loop-turn.writer) m
    c.in-Some.line.items read.0 read.1 c.in-Err.fault c.answer_line.new.service (g.W.Write.contents c.answer_line.new.writer)
    (subst (λ n. FailsLine c.in-Err.fault c.in-Some.line.items (record { number = n; state = m.state; lines = read.0 }) now.service
    c.answer_line.new.service (g.W.Write.contents c.loop-turn.writer) (g.W.Write.contents c.answer_line.new.writer)) here told))

pub loop-turn-preserved : goal.loop-turn-preserved
loop-turn-preserved g c input there =
    let m = c.loop-turn.invariant input there in
    let now : ServiceWithSession = record { service = c.loop-turn.service; session_state = c.loop-turn.session_state } in
    let unread = lines_left (g.R.Read.remaining c.answer_line.new.reader) in
    let read = subst (λ o. NextLine (option_map (λ bytes. bytes.items) o) m.lines (lines_left (g.R.Read.remaining c.next_line.new.reader)))
    c.in-Some.is (c.in_ok-line.ensures.ok m.lines m.left_is) in
    let answered = c.in-Ok.ensures.ok m.state (keeps_midway c.args.service.now now m.state m.service_is m.session_state_are) read.0 read.2 in
    let told = subst (λ (l : List ℕ). AnswersLine l (record { number = c.in-Some-checked_add.here; state = m.state; lines = read.0 }) now.service
    (record { service = c.answer_line.new.service; session_state = c.answer_line.new.session_state }) c.in-Ok.reached unread (g.W.Write.contents c.loop-turn.writer)
    (g.W.Write.contents c.answer_line.new.writer)) c.as_slice.ensures.value answered in
    let here : c.in-Some-checked_add.here ≡ c.loop-turn.number + 1 = search rules in
    goes_on input c.args.service.now now c.loop-turn.number (lines_left (g.R.Read.remaining c.loop-turn.reader))
    (g.W.Write.contents c.args.writer.now) (g.W.Write.contents c.loop-turn.writer) m
    c.in-Some.line.items read.0 read.1 (record { service = c.answer_line.new.service; session_state = c.answer_line.new.session_state }) c.in-Ok.reached unread
    (g.W.Write.contents c.answer_line.new.writer)
    (subst (λ n. AnswersLine c.in-Some.line.items (record { number = n; state = m.state; lines = read.0 }) now.service
    (record { service = c.answer_line.new.service; session_state = c.answer_line.new.session_state }) c.in-Ok.reached unread (g.W.Write.contents c.loop-turn.writer)
    (g.W.Write.contents c.answer_line.new.writer)) here told)
