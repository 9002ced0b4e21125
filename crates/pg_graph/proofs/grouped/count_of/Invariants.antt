use Rattle.std.proofs.Common.{◌≡◌, leb, true}
use Rattle.std.specs.List.{AllWithin}
use Rattle.pg_graph_rows.specs.RowEdit.{source_of}
use Rattle.pg_graph.proofs.grouped.count_of.Given as goal

abbrev pub invariant-loop-count : goal.invariant-loop-count
invariant-loop-count l = AllWithin (λ e. leb (source_of e.1) l.id ≡ true) l.edits 0 l.count
