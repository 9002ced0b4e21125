-- A graph: rows by rising id, each with an input and its out-edges (Pregel, section 2: the input graph).
use Rattle.std.specs.Prelude.{ℕ, List, Option, length}
use Rattle.std.specs.Ordering.{nat_cmp}
use Rattle.std.specs.BTreeMap.{insert_entry, is_at}
use Rattle.std.specs.List.{sum_by}
use Rattle.std.specs.Map.{keys_of, lookup, remove_entry}
use Rattle.std.specs.List.Sorted.{IsStrictlySortedBy}
use Rattle.pg_graph_rows.specs.declared.row.Row.{Row}

-- ids with their rows, by rising id
abbrev pub Rows : Type 0
Rows = List (ℕ × Row)

-- the ids rise
abbrev pub HasRisingIds : Rows → Type 0
HasRisingIds rows = IsStrictlySortedBy nat_cmp (keys_of rows)

-- the row of an id
abbrev pub row_at : ℕ → Rows → Option Row
row_at id rows = lookup (is_at (nat_cmp id)) rows

-- with this row at an id
abbrev pub with_row : ℕ → Row → Rows → Rows
with_row id row rows = insert_entry nat_cmp rows id row

-- without the row of an id
abbrev pub without_row : ℕ → Rows → Rows
without_row id rows = remove_entry (is_at (nat_cmp id)) rows

abbrev pub vertex_count : Rows → ℕ
vertex_count rows = length rows

-- how many edges there are, those to missing targets too
abbrev pub edge_count : Rows → ℕ
edge_count rows = sum_by (λ e. length e.1.edges) rows
