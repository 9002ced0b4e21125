use Rattle.std.proofs.Common.{◌≤◌, length, subst, sym}
use Rattle.pg_inbox_messages.proofs.Grouping.{items_found, run_within}
use Rattle.pg_inbox_bundles.proofs.cursor.envelopes_near.Goals as goal

pub split_at-requires-2 : goal.split_at-requires-2
split_at-requires-2 g c = subst (λ n. n ≤ length c.split_at.result.1.now) (sym c.run_len.ensures) (run_within c.args.target c.split_at.result.1.now)

pub returns : goal.returns
returns g c =
    items_found c.args.target c.args.envelopes.now c.split_at.result.1.now c.split_at-2.result.0.now c.count_below-before.result c.run_len.result
    c.requires c.count_below-before.ensures.bound c.count_below-before.ensures.parts c.split_at.ensures.back c.run_len.ensures c.split_at-2.ensures.front
