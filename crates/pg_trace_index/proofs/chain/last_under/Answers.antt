use Rattle.std.proofs.Common.{◌∙◌}
use Rattle.pg_trace_index.proofs.Chains.{last_before_it, last_itself}
use Rattle.pg_trace_index.proofs.chain.last_under.Goals as goal

pub returns-then-logged-limit : goal.returns-then-logged-limit
returns-then-logged-limit c = last_itself c.args.limit c.args.earlier.now c.args.logged c.if-logged-limit.true

pub returns : goal.returns
returns c = c.last_before.ensures ∙ last_before_it c.args.limit c.args.earlier.now c.args.logged c.if-logged-limit.false
