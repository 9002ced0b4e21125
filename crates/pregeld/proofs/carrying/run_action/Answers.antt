use Rattle.std.proofs.Common.{Ok, subst, sym}
use Rattle.pregeld.specs.SessionState.{ServiceWithSession}
use Rattle.pregeld.specs.Reading.{lines_left}
use Rattle.pregeld.specs.Keeping.{RepliesTo}
use Rattle.pregeld.specs.Session.{Place}
use Rattle.pregeld_commands.specs.declared.command.Command.TheVariants.{Act}
use Rattle.pregeld.proofs.Actions.{check_replies, commit_replies, refresh_replies}
use Rattle.pregeld.proofs.carrying.run_action.Goals as goal

pub returns-in-Commit-clause-ok : goal.returns-in-Commit-clause-ok
returns-in-Commit-clause-ok g c state keeps lines there =
    let here : Place = record { number = c.args.number; state = state; lines = lines } in
    let held : ServiceWithSession = record { service = c.commit.new.service; session_state = c.commit.new.session_state } in
    let unread = lines_left (g.R.Read.remaining c.args.reader.now) in
    subst (λ a. RepliesTo (Ok (Act a)) here c.args.service.now c.commit.result c.args.number held unread) (sym c.in-Commit.is)
    (commit_replies here c.args.service.now c.args.session_state.now c.commit.new.session_state c.commit.result c.commit.new.service unread keeps there
    c.commit.ensures.emptied c.commit.ensures.edits)

pub returns-in-Refresh-clause-ok : goal.returns-in-Refresh-clause-ok
returns-in-Refresh-clause-ok g c state keeps lines there =
    let here : Place = record { number = c.args.number; state = state; lines = lines } in
    let held : ServiceWithSession = record { service = c.refresh.new.service; session_state = c.refresh.new.session_state } in
    let unread = lines_left (g.R.Read.remaining c.args.reader.now) in
    subst (λ a. RepliesTo (Ok (Act a)) here c.args.service.now c.refresh.result c.args.number held unread) (sym c.in-Refresh.is)
    (refresh_replies here c.args.service.now c.args.session_state.now c.refresh.result held unread keeps there c.refresh.ensures)

pub returns-in-Recompute-clause-ok : goal.returns-in-Recompute-clause-ok
returns-in-Recompute-clause-ok g c state keeps lines there =
    let here : Place = record { number = c.args.number; state = state; lines = lines } in
    let held : ServiceWithSession = record { service = c.args.service.now; session_state = c.args.session_state.now } in
    let unread = lines_left (g.R.Read.remaining c.args.reader.now) in
    subst (λ a. RepliesTo (Ok (Act a)) here c.args.service.now c.check.result c.args.number held unread) (sym c.in-Recompute.is)
    (check_replies here held c.check.result unread keeps there c.check.ensures)
