use Rattle.std.specs.Option.{option_copied}
use Rattle.pg_graph_rows.proofs.LastRow.{IsEdited}
use Rattle.pg_graph_rows.proofs.last_row.add_edited.Given as goal

abbrev pub invariant-loop-position : goal.invariant-loop-position
invariant-loop-position l = IsEdited (option_copied l.row) l.edits l.position-index l.fn.list.items l.input l.list.items
