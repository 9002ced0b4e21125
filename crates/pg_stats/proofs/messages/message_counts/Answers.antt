use Rattle.std.proofs.Common.{ap, map, subst, take, ◌∙◌}
use Rattle.std.proofs.lemmas.List.{take_all}
use Rattle.pg_inbox.specs.Handed.{LoggedBundle}
use Rattle.pg_stats.specs.MessageCounts.{IsWithBundle, message_counts_of}
use Rattle.pg_stats.proofs.Counting.{one_taken}
use Rattle.pg_stats.proofs.Passing.{message_counts_push}
use Rattle.pg_stats.proofs.messages.message_counts.Goals as goal

pub loop-logged-preserved : goal.loop-logged-preserved
loop-logged-preserved g c =
    let missing = c.args.missing in
    let rows = c.args.graph.now in
    let bundles = c.args.bundles.now in
    let i = c.loop-logged.logged-index in
    let one = c.logged-item.result in
    let after = c.in_ok-message_counts.message_counts in
    message_counts_push rows missing (take i bundles) one after
    (subst (λ before. IsWithBundle missing rows one.bundle before after) c.loop-logged.invariant c.in_ok-message_counts.ensures)
    ∙ ap (λ ls. message_counts_of missing rows (map (λ (l : LoggedBundle g.row.M.Denot). l.bundle) ls)) (one_taken bundles i c.loop-logged-test.true c.logged-item.is)

pub returns : goal.returns
returns g c =
    c.loop-logged.invariant
    ∙ ap (λ ls. message_counts_of c.args.missing c.args.graph.now (map (λ (l : LoggedBundle g.row.M.Denot). l.bundle) ls))
    (take_all c.loop-logged.logged-index c.args.bundles.now c.loop-logged-test.false)
