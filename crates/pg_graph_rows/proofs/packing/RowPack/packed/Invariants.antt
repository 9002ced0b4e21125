use Rattle.std.proofs.Common.{◌≡◌, ◌++◌, drop}
use Rattle.pg_graph_rows.proofs.packing.RowPack.packed.Given as goal

abbrev pub invariant-loop-id : goal.invariant-loop-id
invariant-loop-id l = l.packing ++ drop l.id-index l.entries ≡ l.entries
