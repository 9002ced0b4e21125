use Rattle.std.proofs.Common.{ap, ◌∙◌, subst, length}
use Rattle.std.specs.Prelude.{◌≡◌, ◌<◌, ◌≤◌}
use Rattle.pregeld.specs.SessionState.{Noted, stored_limit}
use Rattle.pregeld.proofs.Pending.{stored_full, stored_more}
use Rattle.pregeld.proofs.session_state.SessionState.note.Goals as goal

pub returns-in_ok-push-clause-ok : goal.returns-in_ok-push-clause-ok
returns-in_ok-push-clause-ok c =
    let inside : c.self.inside.pending ≡ c.args.self.now.pending = ap (λ (n : Noted). n.pending) c.self.view_is in
    let same : c.self.inside.report ≡ c.args.self.now.report = ap (λ (n : Noted). n.report) c.self.view_is in
    let room : length c.self.inside.pending < stored_limit = subst (λ es. length es < stored_limit) c.as_slice.ensures c.if-as_slice-lt-STORED_LIMIT.true in
    rw (c.in_ok-push.ensures.ok, same, inside) (ap (λ es. record c.args.self.now { pending = es }) (stored_more c.args.self.now.pending c.args.edit
    (rw inside at room)))

pub returns-else-as_slice-lt-STORED_LIMIT-clause-ok : goal.returns-else-as_slice-lt-STORED_LIMIT-clause-ok
returns-else-as_slice-lt-STORED_LIMIT-clause-ok c =
    let inside : c.self.inside.pending ≡ c.args.self.now.pending = ap (λ (n : Noted). n.pending) c.self.view_is in
    let slice = c.as_slice.ensures ∙ inside in
    let full : stored_limit ≤ length c.args.self.now.pending = subst (λ es. stored_limit ≤ length es) slice c.if-as_slice-lt-STORED_LIMIT.false in
    let within : length c.args.self.now.pending ≤ stored_limit = subst (λ es. length es ≤ stored_limit) inside c.self.invariant in
    ap (λ es. record c.args.self.now { pending = es }) (stored_full c.args.self.now.pending c.args.edit within full)
