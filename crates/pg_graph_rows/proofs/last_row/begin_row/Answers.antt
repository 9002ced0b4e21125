use Rattle.pg_graph_rows.proofs.LastRow.{no_row}
use Rattle.pg_graph_rows.proofs.last_row.begin_row.Goals as goal

pub returns-in_default-clause-ok : goal.returns-in_default-clause-ok
returns-in_default-clause-ok c = rw c.in_default.is (no_row c.args.list.now.items)
