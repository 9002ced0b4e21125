-- What changes make of a vertex of a graph.
use Rattle.std.specs.Prelude.{ℕ, Option, unwrap_or}
use Rattle.std.specs.BTreeMap.{is_at}
use Rattle.std.specs.Ordering.{nat_cmp}
use Rattle.std.specs.Map.{lookup}
use Rattle.pg_graph_rows.specs.ChangedRows.{RowChanges}
use Rattle.pg_graph.specs.Rows.{Rows, row_at}
use Rattle.pg_graph_rows.specs.declared.row.Row.{Row}

-- what a vertex has after the changes
abbrev pub changed_row_at : ℕ → RowChanges → Rows → Option Row
changed_row_at id changes rows = unwrap_or (lookup (is_at (nat_cmp id)) changes) (row_at id rows)
