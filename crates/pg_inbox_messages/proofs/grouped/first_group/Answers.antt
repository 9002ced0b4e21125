use Rattle.std.proofs.Common.{◌≤◌, length, subst, sym}
use Rattle.pg_inbox_messages.proofs.Grouping.{first_group_is, run_within}
use Rattle.pg_inbox_messages.proofs.grouped.first_group.Goals as goal

pub split_at-requires : goal.split_at-requires
split_at-requires g c = subst (λ n. n ≤ length c.args.items.now) (sym c.run_len.ensures) (run_within c.in_ok-first.first.now.0 c.args.items.now)

pub returns : goal.returns
returns g c =
    first_group_is c.args.items.now c.in_ok-first.first.now _ c.split_at.result.0.now c.split_at.result.1.now c.run_len.result
    c.in_ok-first.ensures.cases.0 c.run_len.ensures c.split_at.ensures.front c.split_at.ensures.back c.split_at.ensures.back_len
