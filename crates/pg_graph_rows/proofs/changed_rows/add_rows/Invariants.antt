use Rattle.std.proofs.Common.{◌≡◌, ◌++◌, drop}
use Rattle.std.specs.Arc.{arc_value}
use Rattle.pg_graph_rows.specs.ChangedRows.{changes_of}
use Rattle.pg_graph_rows.specs.Packing.{AreParts}
use Rattle.pg_graph_rows.proofs.changed_rows.add_rows.Given as goal

abbrev pub invariant-loop-row : goal.invariant-loop-row
invariant-loop-row l =
    (l.rows.items ++ changes_of (drop l.row-index l.waiting) (arc_value l.edges).items ≡ l.initial.rows.items ++ changes_of l.waiting (arc_value l.edges).items)
    × AreParts (drop l.row-index l.waiting) (arc_value l.edges).items
