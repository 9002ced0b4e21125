use Rattle.std.proofs.Common.{◌≡◌, ◌<◌, ℕ, length, get_or, ap, ap₂, ◌∙◌, arith}
use Rattle.pg_inbox_bundles.proofs.Sending.{length-sends_in, send_at}
use Rattle.pg_inbox_bundles.proofs.outbox.OutboxRef.at.Goals as goal

pub send_at-requires-clause-senders : goal.send_at-requires-clause-senders
send_at-requires-clause-senders g c =
    let senders = c.self.inside.senders.now in
    let sent = c.self.inside.sent.now in
    omega (arith, c.requires, ap length c.self.view_is, length-sends_in senders sent c.self.invariant, c.self.invariant)

pub send_at-requires-clause-sent : goal.send_at-requires-clause-sent
send_at-requires-clause-sent g c =
    let senders = c.self.inside.senders.now in
    let sent = c.self.inside.sent.now in
    omega (arith, c.requires, ap length c.self.view_is, length-sends_in senders sent c.self.invariant)

pub returns : goal.returns
returns g c s =
    let senders = c.self.inside.senders.now in
    let sent = c.self.inside.sent.now in
    let place = c.args.place in
    let within : place < length sent = omega (arith, c.requires, ap length c.self.view_is, length-sends_in senders sent c.self.invariant) in
    let r = c.send_at.result in
    let m : ℕ × g.row.M.Denot = (s.1, s.2) in
    let stated : ◌≡◌ {A = ℕ × ℕ × g.row.M.Denot} (r.0, r.1, r.2.now) (get_or senders place s.0, (get_or sent place m).0, (get_or sent place m).1) =
    ap (λ a. (a, r.1, r.2.now)) (c.send_at.ensures.sender s.0)
    ∙ ap₂ (λ b x. (get_or senders place s.0, b, x)) (c.send_at.ensures.target m) (c.send_at.ensures.message m) in
    stated ∙ send_at senders sent c.self.invariant place s.0 m s within ∙ ap (λ l. get_or l place s) c.self.view_is
