use Rattle.std.proofs.Common.{ap, ◌∙◌}
use Rattle.pg_inbox.specs.SparseVec.{inside, value_in}
use Rattle.pg_inbox.proofs.logs.Logs.get.Goals as goal

pub returns : goal.returns
returns g c =
    let senders = c.self.inside.senders in
    let supersteps = c.in_ok-supersteps.supersteps.now in
    let targets = c.in_ok-row.row.now in
    let sent = c.in_ok-supersteps.ensures ∙ ap (λ n. value_in n senders) c.number.ensures ∙ ap (value_in c.args.from) c.self.view_is in
    let there = c.in_ok-row.ensures ∙ ap (λ n. value_in n supersteps) c.number-2.ensures ∙ ap (inside c.args.superstep) sent in
    c.get-3.ensures ∙ ap (λ n. value_in n targets) c.number-3.ensures ∙ ap (inside c.args.to) there
