use Rattle.std.proofs.Common.{◌≡◌, ◌+◌, Ok, rules, subst, sym}
use Rattle.pregeld.specs.SessionState.{ServiceWithSession}
use Rattle.pregeld.specs.Reading.{lines_left}
use Rattle.pregeld.specs.Keeping.{ImportsLines, RepliesTo}
use Rattle.pregeld.specs.Session.{Place}
use Rattle.pregeld_commands.specs.declared.command.Action.TheVariants.{Import}
use Rattle.pregeld_commands.specs.declared.command.Command.TheVariants.{Act}
use Rattle.pregeld_commands.specs.declared.command.LineFault.TheVariants.{EditsPending}
use Rattle.pregeld.specs.declared.reply.Reply.TheVariants.{Fault}
use Rattle.pregeld.proofs.Actions.{aside_replies, cut_short_replies, import_replies}
use Rattle.pregeld.proofs.carrying.import.Goals as goal

pub returns-then-has_pending-clause-ok : goal.returns-then-has_pending-clause-ok
returns-then-has_pending-clause-ok g c state keeps rest there =
    let unread = lines_left (g.R.Read.remaining c.skip_lines.new.reader) in
    let here : Place = record { number = c.args.number; state = state; lines = rest } in
    let held : ServiceWithSession = record { service = c.args.service.now; session_state = c.args.session_state.now } in
    let reached : c.in-Some.reached ≡ c.args.number + c.args.lines = search rules in
    subst (λ k. RepliesTo (Ok (Act (Import c.args.form c.args.lines))) here c.args.service.now (Fault EditsPending here.number) k held unread) (sym reached)
    (aside_replies c.args.form c.args.lines c.in_ok-_aside._aside here held unread keeps c.if-has_pending.ensures (c.in_ok-_aside.ensures.ok rest there))

pub returns-in-Some-2-clause-ok : goal.returns-in-Some-2-clause-ok
returns-in-Some-2-clause-ok g c state keeps rest there =
    let unread = lines_left (g.R.Read.remaining c.import_lines.new.reader) in
    let here : Place = record { number = c.args.number; state = state; lines = rest } in
    let reached : c.in-Some.reached ≡ c.args.number + c.args.lines = search rules in
    let imports = subst (λ o. ImportsLines c.args.form c.args.lines rest c.args.service.now o c.import_lines.new.service unread) c.in-Some-2.is
    (c.in_ok-reply.ensures.ok rest there) in
    subst (λ k. RepliesTo (Ok (Act (Import c.args.form c.args.lines))) here c.args.service.now c.in-Some-2.reply k
    (record { service = c.import_lines.new.service; session_state = c.args.session_state.now }) unread) (sym reached)
    (import_replies c.args.form c.args.lines here c.args.service.now c.args.session_state.now c.in-Some-2.reply c.import_lines.new.service unread keeps
    c.if-has_pending.ensures imports)

pub returns-in-None-clause-ok : goal.returns-in-None-clause-ok
returns-in-None-clause-ok g c state keeps rest there =
    let unread = lines_left (g.R.Read.remaining c.import_lines.new.reader) in
    let here : Place = record { number = c.args.number; state = state; lines = rest } in
    let held : ServiceWithSession = record { service = c.args.service.now; session_state = c.args.session_state.now } in
    let imports = subst (λ o. ImportsLines c.args.form c.args.lines rest c.args.service.now o c.import_lines.new.service unread) c.in-None.is
    (c.in_ok-reply.ensures.ok rest there) in
    cut_short_replies c.args.form c.args.lines here held c.import_lines.new.service unread keeps c.if-has_pending.ensures imports
